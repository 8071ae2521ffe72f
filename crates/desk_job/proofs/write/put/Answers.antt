-- `put` meets its contract.
use native.Mathlib.Omega.{arith}
use Rattle.desk_job.proofs.Writing.{wrote_one, wrote_past}
use Rattle.desk_job.proofs.write.put.Goals as goal

pub returns-then-out-at : goal.returns-then-out-at
returns-then-out-at c = wrote_past c.args.at c.args.b c.args.out.now c.requires c.if-out-at.true

pub returns : goal.returns
returns c = wrote_one c.args.at c.args.b c.args.out.now (omega (arith, c.if-out-at.false))
