-- `context::buffer::count_newlines` meets its contract: the library counts as the definition does.
use mathlib.Core.Path.{◌≡◌, refl}
use mathlib.Core.Bool.{Bool, true, false, cond}
use mathlib.Core.List.{List}
use Prim.Native.Nat.{ℕ, ◌+◌}
use native.Mathlib.Omega.{arith}
use lib.Dec.{eqb}
use Rattle.std.specs.List.{count_by}
use Rattle.std.proofs.lemmas.List.{take_all}
use Rattle.std.proofs.lemmas.List.Recursion.{is_count_by}
use Rattle.context.specs.Cells.{count}
use Rattle.context.proofs.buffer.count_newlines.Goals as goal

added : (t : Bool) (n : ℕ) → cond t 1 0 + n ≡ cond t (1 + n) n
added true n = refl
added false n = omega arith

counted : (xs : List ℕ) → count 10 xs ≡ count_by (λ x. eqb x 10) xs
counted = is_count_by (count 10) (λ x. eqb x 10) refl (λ x xs. added (eqb x 10) (count 10 xs))

pub returns : goal.returns
returns c = rw (counted c.args.text.now, ← take_all c.loop-b.b-index c.args.text.now (omega (arith, c.loop-b.auto.b-index-end))) c.loop-b.invariant
