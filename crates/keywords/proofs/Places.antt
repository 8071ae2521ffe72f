-- The place of a word in a list.
use mathlib.Core.Path.{◌≡◌, refl}
use mathlib.Core.Bool.{Bool, true, false, cond}
use mathlib.Core.List.{List, [], ◌∷◌}
use Prim.Native.Nat.{ℕ, zero, suc, ◌<◌}
use native.Mathlib.Nat.{le_of_suc-le-suc, not-suc-le-zero}
use native.Mathlib.Omega.{arith}
use borrow.Author.Tests.{eq-eqb}
use lib.ListN.{length, get_or}
use Rattle.basics.proofs.Same.{same-equal}
use Rattle.keywords.specs.Words.{same, next, place_of}
use Rattle.std.specs.Prelude.{Option, Some, None}
use Rattle.std.proofs.lemmas.Option.{none-some, same_Some}

pub same_self : (w : List ℕ) → same w w ≡ true
unfolding same
same_self [] = refl
same_self (b ∷ w) = rw (eq-eqb b b refl, same_self w)

-- w is the entry at the place i
pub record Entry (w : List ℕ) (es : List (List ℕ)) (i : ℕ) : Type 0 where
  pub inside : i < length es
  pub is : get_or es i [] ≡ w

later : {w e : List ℕ} {es : List (List ℕ)} {i : ℕ} → Entry w es i → Entry w (e ∷ es) (suc i)
later x = record { inside = omega (arith, x.inside); is = x.is }

-- a word that has a place is the entry at that place
pub placed_entry : (w : List ℕ) (es : List (List ℕ)) (i : ℕ) → place_of w es ≡ Some i → Entry w es i
unfolding place_of
placed_entry w [] i h = absurd (none-some i h)
placed_entry w (e ∷ es) i h = go (same e w) refl (place_of w es) refl h (placed_entry w es)
  where
    go : (b : Bool) → same e w ≡ b → (p : Option ℕ) → place_of w es ≡ p → cond b (Some 0) (next p) ≡ Some i → ((j : ℕ) → place_of w es ≡ Some j → Entry w es j) → Entry w (e ∷ es) i
    go true s p q u more = rw (← same_Some _ _ u) (record { inside = omega arith; is = same-equal e w s })
    go false s (Some j) q u more = rw (← same_Some _ _ u) (later (more j q))
    go false s None q u more = absurd (none-some i u)

-- an entry has a place
pub record Placed (w : List ℕ) (es : List (List ℕ)) : Type 0 where
  pub place : ℕ
  pub is : place_of w es ≡ Some place

pub entry-placed : (w : List ℕ) (es : List (List ℕ)) (i : ℕ) → Entry w es i → Placed w es
unfolding place_of
entry-placed w [] i x = absurd (not-suc-le-zero x.inside)
entry-placed w (e ∷ es) zero x = record { place = 0; is = rw (x.is, same_self w) }
entry-placed w (e ∷ es) (suc i) x = go (same e w) refl (entry-placed w es i (record { inside = le_of_suc-le-suc x.inside; is = x.is }))
  where
    go : (b : Bool) → same e w ≡ b → Placed w es → Placed w (e ∷ es)
    go true s p = record { place = 0; is = rw s }
    go false s p = record { place = suc p.place; is = rw (s, p.is) }
