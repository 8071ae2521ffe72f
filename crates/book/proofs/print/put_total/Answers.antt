-- `put_total` meets its contract.
use Rattle.desk_job.proofs.Writing.{puts_then}
use Rattle.book.specs.Report.{total_line}
use Rattle.book.proofs.print.put_total.Goals as goal

pub returns : goal.returns
unfolding total_line
returns c = puts_then (puts_then c.put_field.ensures c.put_field-2.ensures) c.put_pair.ensures
