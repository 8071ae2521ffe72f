-- `context::buffer::copy` meets its contract: after i passes the first i bytes of the text are laid over the front.
use mathlib.Core.Path.{refl, sym, ◌∙◌}
use Prim.Native.Nat.{◌<◌}
use native.Mathlib.Nat.{min-le_left, min-le_right}
use native.Mathlib.Omega.{arith}
use Rattle.std.proofs.lemmas.List.{length-take-le}
use lib.ListN.{length, take, length-set}
use Rattle.context.proofs.Splicing.{splice-nil, splice-covers, splice-front, loop_step, loop_end}
use Rattle.context.proofs.buffer.copy.Goals as goal

pub loop-i-init : goal.loop-i-init
loop-i-init c = (sym (splice-nil 0 _), refl)

pub loop-i-preserved : goal.loop-i-preserved
loop-i-preserved c =
    let p = c.args.text.now in
    let out = c.args.out.now in
    let low = min-le_left (length p) (length out) in
    let right = min-le_right (length p) (length out) in
    let cut = length-take-le c.min-end.result out (omega arith) in
    let more : c.loop-i.i < length p = omega arith in (
      loop_step p (take c.min-end.result out) c.loop-i.b-items c.loop-i.i _ 0 c.loop-i.invariant.0 more refl,
      length-set c.loop-i.b-items c.loop-i.i _ ∙ c.loop-i.invariant.1,
    )

pub returns : goal.returns
returns c =
    let p = c.args.text.now in
    let out = c.args.out.now in
    let n = c.min-end.result in
    let low = min-le_left (length p) (length out) in
    let right = min-le_right (length p) (length out) in
    let cut = length-take-le n out (omega arith) in
    let laid = loop_end p (take n out) c.loop-i.b-items _ c.loop-i.invariant.0 (omega arith) in
    splice-front p out _ n c.min-end.ensures (laid ∙ splice-covers p (take n out) (omega arith) ∙ rw cut refl)
