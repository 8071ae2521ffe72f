-- `print_refusal` meets its contract.
use borrow.Author.Rules.{rules}
use Rattle.desk_job.proofs.Writing.{puts_all}
use Rattle.desk_job.specs.Job.{refused_line}
use Rattle.desk_job.proofs.print_refusal.Goals as goal

pub returns : goal.returns
unfolding refused_line
returns c = puts_all c.new-writer.ensures.end c.new-writer.ensures.space c.put_pair.ensures c.end.ensures (search rules)
