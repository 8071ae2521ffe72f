-- `put_all` meets its contract: after i passes the first i bytes are written.
use native.Mathlib.Omega.{arith}
use Rattle.desk_job.proofs.Writing.{same_length-of, within, wrote_all, wrote_nothing, wrote_step}
use Rattle.desk_job.proofs.write.put_all.Goals as goal

pub loop-b-init : goal.loop-b-init
loop-b-init c = wrote_nothing c.args.start c.args.out.now c.requires

pub put-at-requires : goal.put-at-requires
put-at-requires c = within c.args.start _ c.args.out.now c.loop-b.invariant

pub loop-b-preserved : goal.loop-b-preserved
loop-b-preserved c = wrote_step c.args.start c.args.out.now c.args.text.now c.loop-b.b-index (omega arith) c.loop-b.invariant c.put-at.ensures

pub shape_of-out : goal.shape_of-out
shape_of-out c = same_length-of c.args.start _ c.args.out.now c.loop-b.invariant

pub returns : goal.returns
returns c = wrote_all c.args.start c.args.out.now c.args.text.now c.loop-b.b-index (omega (arith, c.loop-b.auto.b-index-end)) c.loop-b.invariant
