-- `put_job` meets its contract, by the cases of what is told.
use Rattle.desk_job.proofs.Writing.{puts_then}
use Rattle.book.specs.Report.{job_line}
use Rattle.book.proofs.print.put_job.Goals as goal

pub returns-in-Ok : goal.returns-in-Ok
unfolding job_line
returns-in-Ok c = rw c.in-Ok.is (puts_then c.put_decimal.ensures c.put_pair.ensures)

pub returns-in-Err : goal.returns-in-Err
unfolding job_line
returns-in-Err c = rw c.in-Err.is (puts_then c.put_decimal.ensures c.put_pair-in-Err.ensures)
