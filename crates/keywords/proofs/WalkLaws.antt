-- The walk: what is known once an entry is equal or is not, and the walk with a word's capitals.
use mathlib.Core.Path.{◌≡◌, refl, sym, ap, ◌∙◌}
use mathlib.Core.Bool.{Bool, true, false, and-false}
use mathlib.Core.List.{List, [], ◌∷◌, ◌++◌}
use Prim.Native.Nat.{ℕ, zero, suc, ◌+◌, ◌-◌, ◌≤◌, ◌<◌}
use native.Mathlib.Nat.{le_of_suc-le-suc, not-suc-le-zero}
use native.Mathlib.Numerals.{add-one}
use native.Mathlib.Omega.{arith}
use borrow.Author.Tests.{le-leb, lt-leb}
use lib.ListN.{length, length-append, length-map, length-take, get_or, set, take, drop, replicate}
use lib.Dec.{leb, leb→le}
use lib.Seq.{take-append_seam, take-take}
use Rattle.basics.specs.Case.{to_uppercase}
use Rattle.keywords.specs.Words.{capitals, place_of, words}
use Rattle.keywords.specs.Walk.{capital_letters, first_equal}
use Rattle.std.specs.Prelude.{Option, None, slice_range}
use Rattle.std.proofs.lemmas.Bool.Decides.{nat_tests}
use Rattle.keywords.proofs.Lookup.{no_word}

-- of the bytes so many count as the length says
pub part_take : (n : ℕ) (b : List ℕ) → take n b ≡ slice_range b 0 n
part_take n b = let z : n ≡ n - 0 = omega arith in ap (λ (m : ℕ). take m b) z

pub walked : (n : ℕ) (b w : List ℕ) → n ≤ length b → w ≡ slice_range b 0 n → first_equal n b words ≡ place_of w words
walked n b w h q = rw (le-leb n (length b) h, q, part_take n b) refl

-- a word of at most twelve letters is handed to the walk whole, in capitals; a longer one is not, and is no entry
letters_long : (w : List ℕ) → 12 < length w → place_of (capitals w) words ≡ None
letters_long w h = no_word w (rw (lt-leb (length w) 12 h, and-false (leb 2 (length w))) refl)

-- the zeros after a word's letters
abbrev rest : List ℕ → List ℕ
rest w = drop (length w) (replicate 12 0)

letters_walked : (w : List ℕ) → first_equal (length w) (capital_letters w) words ≡ place_of (capitals w) words
letters_walked w = go (leb (length w) 12) refl
  where
    go : (b : Bool) → leb (length w) 12 ≡ b → first_equal (length w) (capital_letters w) words ≡ place_of (capitals w) words
    go true e =
        let short = leb→le (length w) 12 (rw e tt) in
        let l = length-map w to_uppercase in
        let t : take (length w) (capital_letters w) ≡ capitals w = take-take (length w) 12 (capitals w ++ rest w) short ∙ ap (λ (n : ℕ). take n (capitals w ++ rest w)) (sym l) ∙ take-append_seam (capitals w) (rest w) in
        let fits : length w ≤ length (capital_letters w) = omega (arith, short, l, length-append (capitals w) (rest w), length-take 12 (capitals w ++ rest w)) in
        walked (length w) (capital_letters w) (capitals w) fits (sym t ∙ part_take (length w) (capital_letters w))
    go false e =
        let long : 12 < length w = grind (arith, nat_tests, e) in
        let cut = length-take 12 (capitals w ++ rest w) in
        rw (lt-leb (length w) (length (capital_letters w)) (omega (arith, long, cut))) (sym (letters_long w long))

pub word-place : (w letters : List ℕ) (p : Option ℕ) → letters ≡ capital_letters w → p ≡ first_equal (length w) letters words → place_of (capitals w) words ≡ p
word-place w letters p e q = sym (q ∙ ap (λ (l : List ℕ). first_equal (length w) l words) e ∙ letters_walked w)

-- a byte more in front of the rest
pub put_next : (ws zs : List ℕ) (i : ℕ) → i < length ws → i < length zs → set (take i ws ++ drop i zs) i (get_or ws i 0) ≡ take (i + 1) ws ++ drop (i + 1) zs
put_next ws zs i h k = rw add-one (go ws zs i h k)
  where
    go : (ws zs : List ℕ) (i : ℕ) → i < length ws → i < length zs → set (take i ws ++ drop i zs) i (get_or ws i 0) ≡ take (suc i) ws ++ drop (suc i) zs
    go [] zs i h k = absurd (not-suc-le-zero h)
    go (w ∷ ws) [] i h k = absurd (not-suc-le-zero k)
    go (w ∷ ws) (z ∷ zs) zero h k = refl
    go (w ∷ ws) (z ∷ zs) (suc i) h k = ap (λ (l : List ℕ). w ∷ l) (go ws zs i (le_of_suc-le-suc h) (le_of_suc-le-suc k))
