-- The bytes of a word in capitals.
use mathlib.Core.Path.{◌≡◌, refl, sym, ap, ap₂, ◌∙◌}
use mathlib.Core.Logic.{◌≢◌}
use mathlib.Core.Bool.{true, false, and-false}
use mathlib.Core.List.{List, [], ◌∷◌, ◌++◌, map}
use Prim.Native.Nat.{ℕ, zero, suc, min, ◌<◌}
use native.Mathlib.Nat.{le_of_suc-le-suc, not-suc-le-zero}
use native.Mathlib.Omega.{arith}
use borrow.Author.Tests.{eq-eqb, ne_eqb}
use lib.Dec.{eqb}
use lib.ListN.{length, get_or, take, drop, replicate}
use Rattle.std.proofs.lemmas.Bool.Decides.{nat_tests}
use Rattle.std.proofs.lemmas.List.{map-append, take-map}
use Rattle.std.specs.Char.{to_ascii_uppercase}
use Rattle.std.specs.List.{AllWithin, HoldsAt, zip}
use Rattle.basics.specs.Case.{to_uppercase}
use Rattle.keywords.specs.Words.{capitals, same}

pub capitals-at : (w : List ℕ) (i : ℕ) → i < length w → get_or (capitals w) i 0 ≡ to_uppercase (get_or w i 0)
capitals-at [] i h = absurd (not-suc-le-zero h)
capitals-at (b ∷ w) zero h = refl
capitals-at (b ∷ w) (suc i) h = capitals-at w i (le_of_suc-le-suc h)

-- the library's upper case
pub upper_lem : (b : ℕ) → to_ascii_uppercase b ≡ to_uppercase b
unfolding to_uppercase
upper_lem b = grind (arith, nat_tests)

-- ── a word and capitals, byte by byte

abbrev pub Alike : ℕ × ℕ → Type 0
Alike p = to_ascii_uppercase p.0 ≡ p.1

abbrev pub Unlike : ℕ × ℕ → Type 0
Unlike p = to_ascii_uppercase p.0 ≢ p.1

pub all-alike : (w caps : List ℕ) → length w ≡ length caps → AllWithin Alike (zip w caps) 0 (length (zip w caps)) → same (capitals w) caps ≡ true
unfolding same
all-alike [] [] e h = refl
all-alike [] (c ∷ caps) e h = absurd (omega (arith, e))
all-alike (b ∷ w) [] e h = absurd (omega (arith, e))
all-alike (b ∷ w) (c ∷ caps) e h =
    rw (eq-eqb (to_uppercase b) c (sym (upper_lem b) ∙ h 0 (b, c) (omega arith) (omega arith))) (all-alike w caps (omega (arith, e)) (λ k d u v. h (suc k) d (omega arith) (omega arith)))

pub one_unlike : (w caps : List ℕ) (k : ℕ) → k < length (zip w caps) → HoldsAt Unlike (zip w caps) k → same (capitals w) caps ≡ false
unfolding same
one_unlike [] caps k l h = absurd (not-suc-le-zero l)
one_unlike (b ∷ w) [] k l h = absurd (not-suc-le-zero l)
one_unlike (b ∷ w) (c ∷ caps) zero l h = rw (ne_eqb (to_uppercase b) c (λ e. h (b, c) (upper_lem b ∙ e))) refl
one_unlike (b ∷ w) (c ∷ caps) (suc k) l h = rw (one_unlike w caps k (le_of_suc-le-suc l) h) (and-false (eqb (to_uppercase b) c))

-- ── the first of a word's letters in capitals, and zeros after them

zeros : (k : ℕ) → map to_ascii_uppercase (replicate k 0) ≡ take k (replicate k 0)
zeros zero = refl
zeros (suc k) = ap (λ (r : List ℕ). 0 ∷ r) (zeros k)

pub first_letters : (w : List ℕ) (k m : ℕ) → m ≡ min (length w) k → map to_ascii_uppercase (take m w ++ drop m (replicate k 0)) ≡ take k (capitals w ++ drop (length w) (replicate k 0))
first_letters [] k zero e = zeros k
first_letters [] k (suc m) e = absurd (omega (arith, e))
first_letters (b ∷ w) zero zero e = refl
first_letters (b ∷ w) zero (suc m) e = absurd (omega (arith, e))
first_letters (b ∷ w) (suc k) zero e = absurd (omega (arith, e))
first_letters (b ∷ w) (suc k) (suc m) e = ap₂ (λ (x : ℕ) (r : List ℕ). x ∷ r) (upper_lem b) (first_letters w k m (omega (arith, e)))

zeros_after : (m k : ℕ) → map to_ascii_uppercase (drop m (replicate k 0)) ≡ drop m (replicate k 0)
zeros_after zero zero = refl
zeros_after zero (suc k) = ap (λ (r : List ℕ). 0 ∷ r) (zeros_after zero k)
zeros_after (suc m) zero = refl
zeros_after (suc m) (suc k) = zeros_after m k

-- the same, the zeros as they are
pub letters_put : (w : List ℕ) (k m : ℕ) → m ≡ min (length w) k → take m (map to_ascii_uppercase w) ++ drop m (replicate k 0) ≡ take k (capitals w ++ drop (length w) (replicate k 0))
letters_put w k m e = rw (take-map to_ascii_uppercase m w, ← zeros_after m k, ← map-append to_ascii_uppercase (take m w) (drop m (replicate k 0))) (first_letters w k m e)
