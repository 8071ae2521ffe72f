-- `context::buffer::copy_ends` meets its contract: the front and the back together leave nothing out.
use mathlib.Core.Path.{ap, ◌∙◌}
use mathlib.Core.List.{List}
use Prim.Native.Nat.{ℕ, ◌-◌}
use native.Mathlib.Omega.{arith}
use lib.ListN.{length}
use lib.Seq.{take-length}
use Rattle.context.specs.Splice.{splice}
use Rattle.context.proofs.Splicing.{front_then_back}
use Rattle.context.proofs.buffer.copy_ends.Goals as goal

pub returns : goal.returns
returns g c =
    let a = c.args in
    let n = length a.text.now in
    let m = g.row.N in
    front_then_back (n - m) m n a.text.now a.out.now c.copy_first.new.out c.copy_first-2.new.out (omega arith) (omega arith) c.copy_first.ensures c.copy_first-2.ensures
    ∙ ap (λ (bs : List ℕ). splice 0 bs a.out.now) (take-length a.text.now)
