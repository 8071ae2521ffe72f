-- `context::buffer::copy_in_case` meets its contract: after i passes the first i bytes of the text, in the asked case, are laid over the front.
use mathlib.Core.Path.{refl, sym, ◌∙◌}
use mathlib.Core.List.{map}
use Prim.Native.Nat.{◌<◌}
use native.Mathlib.Nat.{min-le_left, min-le_right}
use native.Mathlib.Omega.{arith}
use Rattle.std.proofs.lemmas.List.{length-take-le}
use lib.ListN.{length, take, length-map, length-set, get_or-map}
use Rattle.context.proofs.Splicing.{splice-nil, splice-covers, splice-front, loop_step, loop_end}
use Rattle.context.specs.Cells.{to_case}
use Rattle.context.proofs.buffer.copy_in_case.Goals as goal

pub loop-i-init : goal.loop-i-init
loop-i-init c = (sym (splice-nil 0 _), refl)

pub loop-i-preserved : goal.loop-i-preserved
loop-i-preserved c =
    let a = c.args in
    let p = a.text.now in
    let f = to_case a.uppercase in
    let low = min-le_left (length p) (length a.out.now) in
    let right = min-le_right (length p) (length a.out.now) in
    let cut = length-take-le c.min-end.result a.out.now (omega arith) in
    let more : c.loop-i.i < length p = omega arith in (
      loop_step (map f p) (take c.min-end.result a.out.now) c.loop-i.b-items c.loop-i.i c.to_case.result (f 0) c.loop-i.invariant.0 (rw length-map more) (get_or-map f p c.loop-i.i 0 ∙ sym c.to_case.ensures),
      length-set c.loop-i.b-items c.loop-i.i c.to_case.result ∙ c.loop-i.invariant.1,
    )

pub returns : goal.returns
returns c =
    let a = c.args in
    let ps = map (to_case a.uppercase) a.text.now in
    let n = c.min-end.result in
    let low = min-le_left (length a.text.now) (length a.out.now) in
    let right = min-le_right (length a.text.now) (length a.out.now) in
    let cut = length-take-le n a.out.now (omega arith) in
    let full = length-map a.text.now (to_case a.uppercase) in
    let laid = loop_end ps (take n a.out.now) c.loop-i.b-items _ c.loop-i.invariant.0 (omega arith) in
    splice-front ps a.out.now _ n (rw length-map c.min-end.ensures) (laid ∙ splice-covers ps (take n a.out.now) (omega arith) ∙ rw cut refl)
