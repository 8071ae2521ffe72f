-- A `match` on a number in the code against `among` and `match` of the definitions: a law for an arm, and two for the last arm.
-- Each asks for one computed test, whose proof is `refl`.
use Prim.Native.Nat.{ℕ}
use mathlib.Core.Path.{◌≡◌, refl, sym, ap, ◌∙◌}
use mathlib.Core.Bool.{Bool, true, false, ◌||◌, false≢true}
use mathlib.Core.List.{List, [], ◌∷◌, map}
use mathlib.Core.Logic.{◌⊎◌, inl, inr}
use lib.Dec.{eqb}
use types.Run.{OneOf}
use borrow.Author.Tests.{eqb-true, ne_eqb}
use Rattle.basics.specs.Match.{among, match}

-- the test: f has the value v at each of the numbers
abbrev pub Each : {A : Type 0} → (ℕ → A) → A → List ℕ → Type 0
Each f v xs = map f xs ≡ map (λ _. v) xs

module _ {A : Type 0} where
  first : {a b : A} {xs ys : List A} → a ∷ xs ≡ b ∷ ys → a ≡ b
  first e = cc

  others : {a b : A} {xs ys : List A} → a ∷ xs ≡ b ∷ ys → xs ≡ ys
  others e = cc

  -- an arm: its value is that of the definition f at each of its keys
  pub arm_is : (f : ℕ → A) (v : A) (ks : List ℕ) (k : ℕ) → Each f v ks → OneOf ks k → v ≡ f k
  arm_is f v [] k t o = absurd o
  arm_is f v (x ∷ []) k t o = sym (first t) ∙ ap f (sym o)
  arm_is f v (x ∷ y ∷ ks) k t (inl o) = sym (first t) ∙ ap f (sym o)
  arm_is f v (x ∷ y ∷ ks) k t (inr o) = arm_is f v (y ∷ ks) k (others t) o

-- ── the last arm

-- k is a key of no arm, the last arm first, as the prover says it
abbrev pub NoKey : List (List ℕ) → ℕ → Type 0
NoKey [] k = Unit {0}
NoKey (ks ∷ arms) k = NoKey arms k × (OneOf ks k → ⊥)

-- k is a key of some arm
abbrev pub in_some : List (List ℕ) → ℕ → Bool
in_some [] k = false
in_some (ks ∷ arms) k = among k ks || in_some arms k

one_of : (ks : List ℕ) (k : ℕ) → among k ks ≡ true → OneOf ks k
one_of [] k e = absurd (false≢true e)
one_of (x ∷ []) k e = go (eqb k x) refl e
  where
    go : (t : Bool) → eqb k x ≡ t → t || false ≡ true → k ≡ x
    go true w u = eqb-true k x w
    go false w u = absurd (false≢true u)
one_of (x ∷ y ∷ ks) k e = go (eqb k x) refl e (one_of (y ∷ ks) k)
  where
    go : (t : Bool) → eqb k x ≡ t → t || among k (y ∷ ks) ≡ true → (among k (y ∷ ks) ≡ true → OneOf (y ∷ ks) k) → (k ≡ x) ⊎ OneOf (y ∷ ks) k
    go true w u ih = inl (eqb-true k x w)
    go false w u ih = inr (ih u)

not_in_some : (arms : List (List ℕ)) (k : ℕ) → NoKey arms k → in_some arms k ≡ true → ⊥
not_in_some [] k n e = false≢true e
not_in_some (ks ∷ arms) k n e = go (among k ks) refl e (not_in_some arms k n.0)
  where
    go : (t : Bool) → among k ks ≡ t → t || in_some arms k ≡ true → (in_some arms k ≡ true → ⊥) → ⊥
    go true w u ih = n.1 (one_of ks k w)
    go false w u ih = ih u

module _ (arms : List (List ℕ)) (k : ℕ) (n : NoKey arms k) where
  differs : (x : ℕ) → in_some arms x ≡ true → eqb k x ≡ false
  differs x t = ne_eqb k x (λ e. not_in_some arms k n (ap (in_some arms) e ∙ t))

  -- against a list, each entry of which is a key of some arm
  pub not_among : (xs : List ℕ) → Each (in_some arms) true xs → false ≡ among k xs
  not_among [] t = refl
  not_among (x ∷ xs) t = rw (differs x (first t)) (not_among xs (others t))

  -- against a table, each key of which is one of some arm
  pub other_is : {A : Type 0} (table : List (ℕ × A)) (d : A) → Each (in_some arms) true (map (λ (e : ℕ × A). e.0) table) → d ≡ match k table d
  other_is [] d t = refl
  other_is (e ∷ es) d t = rw (differs e.0 (first t)) (other_is es d (others t))
