-- On one input, 13 and acceptance name one length, whatever the space.
use Prim.Native.Nat.{ℕ}
use native.Mathlib.Omega.{arith}
use mathlib.Core.Path.{◌≡◌}
use mathlib.Core.List.{List}
use lib.ListN.{length}
use Rattle.context.specs.Cells.{Cell}
use Rattle.layout.specs.Outcome.{Outcome, laid, answer, laid_out, number_in}

-- a layout's answer: its length, with 0 or 13 by the space
pub named : (cs : List Cell) (space : List ℕ) → (laid_out (laid cs) space).answer ≡ answer (number_in (length space) (length cs)) (length cs)
unfolding laid_out
named cs space = grind arith

-- the value is the same in any two spaces: the needed length, or a refusal's place
pub one_value_lem : (x : Outcome) (space other : List ℕ) → (laid_out x space).answer.value ≡ (laid_out x other).answer.value
unfolding laid_out
one_value_lem x space other = grind arith
