-- `copy_front` meets its contract.
use Prim.Native.Nat.{◌<◌}
use mathlib.Core.Path.{◌≡◌, refl, sym, ap, ◌∙◌}
use native.Mathlib.Omega.{arith}
use native.Mathlib.Numerals.{add-one}
use lib.ListN.{length, get_or, take, length-set}
use lib.Seq.{take-suc, take-suc-set, take_all}
use Rattle.token_map.proofs.copy_front.Goals as goal

pub loop-i-init : goal.loop-i-init
loop-i-init c = (refl, refl)

pub loop-i-preserved : goal.loop-i-preserved
loop-i-preserved c =
    let l = c.loop-i in
    let n = c.args.notes.now in
    let h : l.i < length l.map = omega arith in (
      rw (add-one, take-suc-set l.map l.i (get_or n l.i 0) h, l.invariant.0) (sym (take-suc n l.i 0 (omega (arith, c.requires, l.invariant.1)))),
      length-set l.map l.i (get_or n l.i 0) ∙ l.invariant.1,
    )

pub returns : goal.returns
returns c =
    let l = c.loop-i in
    let e : l.i ≡ length c.args.map.now = omega arith in
    sym (take_all l.i l.map (omega arith)) ∙ l.invariant.0 ∙ ap (λ k. take k c.args.notes.now) e
