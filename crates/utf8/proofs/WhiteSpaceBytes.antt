-- White space by its bytes, and at the end of a text.
use Prim.Native.Nat.{ℕ, zero, suc, ◌+◌, ◌≤◌, ◌<◌}
use native.Mathlib.Omega.{arith}
use mathlib.Core.Path.{◌≡◌, refl, sym, ap, ap₂, ◌∙◌}
use mathlib.Core.Bool.{Bool, true, false, cond, ◌&&◌, ◌||◌, and-false, false≢true}
use mathlib.Core.List.{List, [], ◌∷◌}
use mathlib.Core.Logic.{⊎_elim}
use lib.Dec.{eqb, leb}
use borrow.Author.Tests.{eqb-true, eqb-false, leb-true, ne_eqb, lt-leb}
use Rattle.std.proofs.lemmas.Bool.{and_parts, or_cases}
use Rattle.basics.specs.Bytes.{same, listed}
use Rattle.basics.proofs.Same.{same-equal}
use Rattle.utf8.specs.Table.{◌‥◌, holds}
use Rattle.utf8.specs.Pieces.{character}
use Rattle.utf8.specs.WhiteSpace.{counted, white_characters, is_white_space}
use Rattle.utf8.specs.Trimming.{is_white_byte}
use Rattle.utf8.specs.Steps.{white_pair, white_last, white_triple, white_bytes}
use Rattle.utf8.proofs.Tests.{same_tests, holds-low, holds-high}

abbrev pub white : List ℕ → Bool
white c = is_white_space (character c)

-- ── a test that passes at each of a list

abbrev pub all : {A : Type 0} → (A → Bool) → List A → Bool
all f [] = true
all f (x ∷ xs) = f x && all f xs

pub listed-all : (f : List ℕ → Bool) (table : List (List ℕ)) → all f table ≡ true → (c : List ℕ) → listed c table ≡ true → f c ≡ true
unfolding listed
listed-all f [] t c e = absurd (false≢true e)
listed-all f (d ∷ ds) t c e = go (same d c) refl e (listed-all f ds (and_parts (f d) (all f ds) t).1 c)
  where
    go : (s : Bool) → same d c ≡ s → s || listed c ds ≡ true → (listed c ds ≡ true → f c ≡ true) → f c ≡ true
    go true w e ih = ap f (sym (same-equal d c w)) ∙ (and_parts (f d) (all f ds) t).0
    go false w e ih = ih e

-- n numbers from k on
counted-all : (f : ℕ → Bool) (n k : ℕ) → all f (counted n k) ≡ true → (c : ℕ) → k ≤ c → c < k + n → f c ≡ true
counted-all f zero k t c u v = absurd (omega arith)
counted-all f (suc n) k t c u v = go (eqb c k) refl (λ l. counted-all f n (suc k) (and_parts (f k) (all f (counted n (suc k))) t).1 c l (omega arith))
  where
    go : (s : Bool) → eqb c k ≡ s → (suc k ≤ c → f c ≡ true) → f c ≡ true
    go true w ih = ap f (eqb-true c k w) ∙ (and_parts (f k) (all f (counted n (suc k))) t).0
    go false w ih = let e = eqb-false c k w in ih (omega arith)

-- ── the two tests of white space agree

all-white_bytes : all white_bytes white_characters ≡ true
unfolding is_white_byte white_pair white_last white_triple holds
all-white_bytes = refl

pub white_bytes_lem : (c : List ℕ) → white c ≡ true → white_bytes c ≡ true
unfolding is_white_space
white_bytes_lem c e = listed-all white_bytes white_characters all-white_bytes c e

bytes_one : (a : ℕ) → is_white_byte a ≡ true → white (a ∷ []) ≡ true
unfolding is_white_byte is_white_space same listed
bytes_one a e = ⊎_elim (λ w. ap (λ x. white (x ∷ [])) (eqb-true a 32 w)) (λ w. counted-all (λ x. white (x ∷ [])) 5 9 refl a (leb-true 9 a (and_parts (leb 9 a) (leb a 13) w).0) (omega (arith, leb-true a 13 (and_parts (leb 9 a) (leb a 13) w).1))) (or_cases (eqb a 32) (leb 9 a && leb a 13) e)

bytes-two : (a b : ℕ) → white_pair a b ≡ true → white (a ∷ b ∷ []) ≡ true
unfolding white_pair is_white_space same listed
bytes-two a b e =
    let u = eqb-true a 0xC2 (and_parts (eqb a 0xC2) (eqb b 0x85 || eqb b 0xA0) e).0 in
    ⊎_elim
    (λ w. ap₂ (λ x y. white (x ∷ y ∷ [])) u (eqb-true b 0x85 w))
    (λ w. ap₂ (λ x y. white (x ∷ y ∷ [])) u (eqb-true b 0xA0 w))
    (or_cases (eqb b 0x85) (eqb b 0xA0) (and_parts (eqb a 0xC2) (eqb b 0x85 || eqb b 0xA0) e).1)

bytes-last : (c : ℕ) → white_last c ≡ true → white (0xE2 ∷ 0x80 ∷ c ∷ []) ≡ true
unfolding white_last is_white_space same listed
bytes-last c e =
    ⊎_elim
    (λ w. counted-all (λ x. white (0xE2 ∷ 0x80 ∷ x ∷ [])) 11 0x80 refl c (holds-low (0x80 ‥ 0x8A) c w) (omega (arith, holds-high (0x80 ‥ 0x8A) c w)))
    (λ v. ⊎_elim (one 0xA8 refl) (λ w. ⊎_elim (one 0xA9 refl) (one 0xAF refl) (or_cases (eqb c 0xA9) (eqb c 0xAF) w)) (or_cases (eqb c 0xA8) (eqb c 0xA9 || eqb c 0xAF) v))
    (or_cases (holds (0x80 ‥ 0x8A) c) (eqb c 0xA8 || (eqb c 0xA9 || eqb c 0xAF)) e)
  where
    one : (k : ℕ) → white (0xE2 ∷ 0x80 ∷ k ∷ []) ≡ true → eqb c k ≡ true → white (0xE2 ∷ 0x80 ∷ c ∷ []) ≡ true
    one k h w = ap (λ x. white (0xE2 ∷ 0x80 ∷ x ∷ [])) (eqb-true c k w) ∙ h

module _ (a b c : ℕ) where
  abbrev Is : Type 0
  Is = white (a ∷ b ∷ c ∷ []) ≡ true

  three_bytes : (x y z : ℕ) → white (x ∷ y ∷ z ∷ []) ≡ true → eqb a x ≡ true → eqb b y ≡ true → eqb c z ≡ true → Is
  three_bytes x y z h u v w = rw (eqb-true a x u, eqb-true b y v, eqb-true c z w) h

  bytes-three : white_triple a b c ≡ true → Is
  unfolding white_triple is_white_space same listed
  bytes-three e = go (eqb a 0xE2) refl e
    where
      go_4 : eqb a 0xE3 && (eqb b 0x80 && eqb c 0x80) ≡ true → Is
      go_4 e =
          let r = (and_parts (eqb a 0xE3) (eqb b 0x80 && eqb c 0x80) e).1 in
          three_bytes 0xE3 0x80 0x80 refl (and_parts (eqb a 0xE3) (eqb b 0x80 && eqb c 0x80) e).0 (and_parts (eqb b 0x80) (eqb c 0x80) r).0 (and_parts (eqb b 0x80) (eqb c 0x80) r).1

      go_3 : (t : Bool) → eqb a 0xE1 ≡ t → cond t (eqb b 0x9A && eqb c 0x80) (eqb a 0xE3 && (eqb b 0x80 && eqb c 0x80)) ≡ true → Is
      go_3 true u e = three_bytes 0xE1 0x9A 0x80 refl u (and_parts (eqb b 0x9A) (eqb c 0x80) e).0 (and_parts (eqb b 0x9A) (eqb c 0x80) e).1
      go_3 false u e = go_4 e

      go_2 : eqb a 0xE2 ≡ true → (t : Bool) → eqb b 0x80 ≡ t → cond t (white_last c) (eqb b 0x81 && eqb c 0x9F) ≡ true → Is
      go_2 u true v e = rw (eqb-true a 0xE2 u, eqb-true b 0x80 v) (bytes-last c e)
      go_2 u false v e = three_bytes 0xE2 0x81 0x9F refl u (and_parts (eqb b 0x81) (eqb c 0x9F) e).0 (and_parts (eqb b 0x81) (eqb c 0x9F) e).1

      go : (t : Bool) → eqb a 0xE2 ≡ t
          → cond t (cond (eqb b 0x80) (white_last c) (eqb b 0x81 && eqb c 0x9F)) (cond (eqb a 0xE1) (eqb b 0x9A && eqb c 0x80) (eqb a 0xE3 && (eqb b 0x80 && eqb c 0x80))) ≡ true
          → Is
      go true u e = go_2 u (eqb b 0x80) refl e
      go false u e = go_3 (eqb a 0xE1) refl e

bytes-white : (c : List ℕ) → white_bytes c ≡ true → white c ≡ true
bytes-white [] e = absurd (false≢true e)
bytes-white (a ∷ []) e = bytes_one a e
bytes-white (a ∷ b ∷ []) e = bytes-two a b e
bytes-white (a ∷ b ∷ c ∷ []) e = bytes-three a b c e
bytes-white (a ∷ b ∷ c ∷ d ∷ bs) e = absurd (false≢true e)

pub white_is : (c : List ℕ) → white c ≡ white_bytes c
white_is c = same_tests (white c) (white_bytes c) (white_bytes_lem c) (bytes-white c)

pub not_white : (b : ℕ) → 13 < b → (b ≡ 32 → ⊥) → is_white_byte b ≡ false
unfolding is_white_byte
not_white b h e = rw (ne_eqb b 32 e, lt-leb b 13 h) (and-false (leb 9 b))
