-- Laws of `same`, the equality of byte lists.
use mathlib.Core.Path.{◌≡◌, refl, ap}
use mathlib.Core.Bool.{Bool, true, false, ◌&&◌, and-false, false≢true}
use mathlib.Core.List.{List, [], ◌∷◌}
use Prim.Native.Nat.{ℕ, suc}
use borrow.Author.Tests.{eqb-true}
use Rattle.std.proofs.lemmas.Bool.{and_parts}
use lib.Dec.{T, eqb}
use lib.ListN.{length}
use lib.Pointwise.{pointwise}
use Rattle.basics.specs.Bytes.{same}

-- both parts of a test that passed
pub both : (a b : Bool) → T (a && b) → T a × T b
both true b t = (tt, t)
both false b t = absurd t

-- two lists of different lengths are not equal
pub same-lengths : (xs ys : List ℕ) → (length xs ≡ length ys → ⊥) → same xs ys ≡ false
unfolding same
same-lengths [] [] h = absurd (h refl)
same-lengths [] (y ∷ ys) h = refl
same-lengths (x ∷ xs) [] h = refl
same-lengths (x ∷ xs) (y ∷ ys) h = rw (same-lengths xs ys (λ e. h (ap suc e))) (and-false (eqb x y))

pub same-equal : (xs ys : List ℕ) → same xs ys ≡ true → xs ≡ ys
unfolding same
same-equal [] [] h = refl
same-equal [] (y ∷ ys) h = absurd (false≢true h)
same-equal (x ∷ xs) [] h = absurd (false≢true h)
same-equal (x ∷ xs) (y ∷ ys) h =
    let p = and_parts (eqb x y) (same xs ys) h in
    let q = eqb-true x y p.0 in
    let r = same-equal xs ys p.1 in
    cc

-- the library's equality of lists
pub same-pointwise : (xs ys : List ℕ) → same xs ys ≡ pointwise eqb xs ys
unfolding same
same-pointwise [] [] = refl
same-pointwise [] (y ∷ ys) = refl
same-pointwise (x ∷ xs) [] = refl
same-pointwise (x ∷ xs) (y ∷ ys) = ap (λ t. eqb x y && t) (same-pointwise xs ys)
