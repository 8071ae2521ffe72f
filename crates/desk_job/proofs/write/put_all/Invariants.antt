-- `put_all` meets its contract: after i passes the first i bytes are written.
use lib.ListN.{take}
use Rattle.desk_job.proofs.Writing.{Wrote}
use Rattle.desk_job.proofs.write.put_all.Given as goal

abbrev pub invariant-loop-b : goal.invariant-loop-b
invariant-loop-b l = Wrote l.at l.out l.start (take l.b-index l.text) l.initial.out
