-- `print_bad` meets its contract: three writes in a row are one.
use borrow.Author.Rules.{rules}
use Rattle.desk_job.proofs.Writing.{puts_all, puts_then}
use Rattle.replay_list.specs.Line.{bad_line}
use Rattle.replay_list.proofs.line.print_bad.Goals as goal

pub returns : goal.returns
unfolding bad_line
returns c =
    puts_all c.new-writer.ensures.end c.new-writer.ensures.space (puts_then (puts_then c.put_all.ensures c.put_decimal.ensures) c.put_all-2.ensures) c.end.ensures
    (search rules)
