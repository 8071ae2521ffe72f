-- `not_carried` meets its contract: the keys of its arms against the list of the definition, by computed tests; those above 63 by their own test.
use Prim.Native.Nat.{ℕ, ◌<◌}
use native.Mathlib.Omega.{arith}
use mathlib.Core.Path.{◌≡◌, refl, sym, ap, ◌∙◌}
use mathlib.Core.Bool.{Bool, true, false, cond, ◌||◌, or-false}
use mathlib.Core.List.{List, [], ◌∷◌}
use mathlib.Core.Logic.{⊎_elim}
use lib.Dec.{eqb, leb}
use borrow.Author.Tests.{leb-true, ne_eqb}
use Rattle.basics.specs.Match.{among}
use Rattle.basics.proofs.Match.{arm_is, not_among}
use Rattle.tape.specs.Kinds.{not_carried, kinds_not_carried}
use Rattle.tape.proofs.commands.not_carried.Goals as goal

-- the numbers of a list above n, and that a number above n is among these or in none
abbrev above : ℕ → List ℕ → List ℕ
above n [] = []
above n (x ∷ xs) = cond (leb x n) (above n xs) (x ∷ above n xs)

among-above : (n k : ℕ) (xs : List ℕ) → n < k → among k (above n xs) ≡ among k xs
among-above n k [] h = refl
among-above n k (x ∷ xs) h = go (leb x n) refl (among-above n k xs h)
  where
    go : (t : Bool) → leb x n ≡ t → among k (above n xs) ≡ among k xs → among k (cond t (above n xs) (x ∷ above n xs)) ≡ (eqb k x || among k xs)
    go true e ih = rw (ne_eqb k x (λ w. omega (arith, leb-true x n e))) ih
    go false e ih = ap (λ b. eqb k x || b) ih

pub returns-then-kind-gt63 : goal.returns-then-kind-gt63
unfolding not_carried
returns-then-kind-gt63 c = ap (λ b. eqb c.args.kind 131 || b) (sym (or-false (eqb c.args.kind 79))) ∙ among-above 63 c.args.kind kinds_not_carried c.if-kind-gt63.true

pub returns-in-4 : goal.returns-in-4
unfolding not_carried
returns-in-4 c = arm_is not_carried true (4 ∷ 7 ∷ 14 ∷ 17 ∷ 55 ∷ 57 ∷ 59 ∷ 61 ∷ []) c.args.kind refl c.in-4.is

pub returns-in-8 : goal.returns-in-8
unfolding not_carried
returns-in-8 c = arm_is not_carried true (8 ∷ 56 ∷ 58 ∷ []) c.args.kind refl c.in-8.is

pub returns-in_default : goal.returns-in_default
unfolding not_carried
returns-in_default c =
    not_among ((131 ∷ 79 ∷ []) ∷ (8 ∷ 56 ∷ 58 ∷ []) ∷ (4 ∷ 7 ∷ 14 ∷ 17 ∷ 55 ∷ 57 ∷ 59 ∷ 61 ∷ []) ∷ []) c.args.kind
    (c.in_default.in_default-own.rest, ⊎_elim (λ e. omega (arith, c.if-kind-gt63.false)) (λ e. omega (arith, c.if-kind-gt63.false))) kinds_not_carried refl
