-- Which nodes are copied as typed, by kind and by whether the node is an Error node or has one as child.
use Prim.Native.Nat.{ℕ}
use native.Mathlib.Omega.{arith}
use Rattle.std.proofs.lemmas.Bool.Decides.{nat_tests}
use mathlib.Core.Path.{◌≡◌}
use mathlib.Core.Bool.{not, ◌&&◌, ◌||◌}
use lib.Dec.{eqb}
use Rattle.tape.specs.Kinds
use Rattle.tape.specs.Tree.{Children, has_error_child, copied}

-- a QueryList is no Error
pub copied-noted : (k : ℕ) (kids : Children) → ((eqb k Kinds.Error || has_error_child kids) && not (eqb k Kinds.QueryList)) ≡ copied k kids
unfolding copied
copied-noted k kids = grind (arith, nat_tests)
