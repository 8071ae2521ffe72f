-- The three sorts of word: which of them `is_keyword` and `is_value_keyword` of the source tell, and the places of the value words.
use mathlib.Core.Path.{◌≡◌, refl, sym, ap, ◌∙◌}
use mathlib.Core.Bool.{Bool, true, false, cond, not, ◌&&◌, ◌||◌}
use mathlib.Core.List.{List, [], ◌∷◌}
use Prim.Native.Nat.{ℕ, zero, suc, ◌+◌, ◌<◌}
use native.Mathlib.Nat.{le_of_suc-le-suc, not-suc-le-zero}
use native.Mathlib.Omega.{arith}
use lib.Dec.{T, leb}
use lib.ListN.{length, get_or}
use Rattle.basics.proofs.Same.{both}
use Rattle.keywords.specs.Names.{names}
use Rattle.keywords.specs.Words.{bytes, capitals, words, same, listed, is_keyword, is_value_keyword, next, place_of, sort_of, word_of}
use Rattle.std.specs.Prelude.{Option, Some, None}
use Rattle.keywords.specs.declared.Word.{Word}
use Rattle.keywords.specs.declared.Word.TheVariants.{Plain, Value, Keyword}
use Rattle.keywords.proofs.Places.{placed_entry}

-- ── the source's tests by the answer

abbrev pub is_listed : Word → Bool
is_listed Plain = false
is_listed (Value i) = true
is_listed (Keyword i) = true

abbrev pub is_other : Word → Bool
is_other Plain = false
is_other (Value i) = false
is_other (Keyword i) = true

abbrev is_at : Option ℕ → Bool
is_at (Some i) = true
is_at None = false

listed_at : (w : List ℕ) (es : List (List ℕ)) → listed w es ≡ is_at (place_of w es)
unfolding listed place_of
listed_at w [] = refl
listed_at w (e ∷ es) = go (same e w) (place_of w es) (listed_at w es)
  where
    go : (b : Bool) (p : Option ℕ) → listed w es ≡ is_at p → (b || listed w es) ≡ is_at (cond b (Some 0) (next p))
    go true p h = refl
    go false (Some i) h = h
    go false None h = h

pub keyword-listed : (w : List ℕ) → is_keyword w ≡ is_listed (word_of w)
keyword-listed w = listed_at (capitals w) words ∙ go (is_value_keyword w) (place_of (capitals w) words)
  where
    go : (v : Bool) (p : Option ℕ) → is_at p ≡ is_listed (sort_of v p)
    go true (Some i) = refl
    go false (Some i) = refl
    go v None = refl

pub other_keyword : (w : List ℕ) → is_other (word_of w) ≡ (is_keyword w && not (is_value_keyword w))
other_keyword w = go (is_value_keyword w) (place_of (capitals w) words) (listed_at (capitals w) words)
  where
    go : (v : Bool) (p : Option ℕ) → is_keyword w ≡ is_at p → is_other (sort_of v p) ≡ (is_keyword w && not v)
    go true (Some i) h = rw h refl
    go false (Some i) h = rw h refl
    go true None h = rw h refl
    go false None h = rw h refl

-- ── the places of NULL, TRUE and FALSE

abbrev is_value : List ℕ → Bool
is_value w = same w (bytes "TRUE") || (same w (bytes "FALSE") || same w (bytes "NULL"))

abbrev at_value : ℕ → Bool
at_value i = leb 97 i && leb i 99

abbrev agree : Bool → Bool → Bool
agree true b = b
agree false b = not b

agreed : (a b : Bool) → T (agree a b) → a ≡ b
agreed true true t = refl
agreed true false t = absurd t
agreed false true t = absurd t
agreed false false t = refl

values_from : ℕ → List (List ℕ) → Bool
values_from i [] = true
values_from i (e ∷ es) = agree (is_value e) (at_value i) && values_from (suc i) es

-- the entries at these places are the value words, and no others: one computed test
values_from_lem : T (values_from 0 words)
unfolding names words same values_from
values_from_lem = tt

value-at : (i : ℕ) (es : List (List ℕ)) (j : ℕ) → T (values_from i es) → j < length es → is_value (get_or es j []) ≡ at_value (i + j)
unfolding values_from
value-at i [] j t h = absurd (not-suc-le-zero h)
value-at i (e ∷ es) zero t h =
    let z : i ≡ i + 0 = omega arith in
    agreed (is_value e) (at_value i) (both (agree (is_value e) (at_value i)) (values_from (suc i) es) t).0 ∙ ap (λ (n : ℕ). at_value n) z
value-at i (e ∷ es) (suc j) t h =
    let s : suc i + j ≡ i + suc j = omega arith in
    value-at (suc i) es j (both (agree (is_value e) (at_value i)) (values_from (suc i) es) t).1 (le_of_suc-le-suc h) ∙ ap (λ (n : ℕ). at_value n) s

-- a listed word is a value word by its place
value-place : (w : List ℕ) (i : ℕ) → place_of (capitals w) words ≡ Some i → is_value_keyword w ≡ at_value i
value-place w i h =
    let x = placed_entry (capitals w) words i h in
    let z : 0 + i ≡ i = omega arith in
    ap (λ (v : List ℕ). is_value v) (sym x.is) ∙ value-at 0 words i values_from_lem x.inside ∙ ap (λ (n : ℕ). at_value n) z

-- the sort of a listed word, and of one that is not
pub placed_word : (w : List ℕ) (i : ℕ) → place_of (capitals w) words ≡ Some i → (v : Bool) → at_value i ≡ v → sort_of v (Some i) ≡ word_of w
placed_word w i h v e = rw (value-place w i h, e, h) refl

pub plain_word : (w : List ℕ) → place_of (capitals w) words ≡ None → Plain ≡ word_of w
plain_word w h = rw h refl
