-- Laws of cutting a text into pieces.
use Prim.Native.Nat.{ℕ, zero, suc, ◌+◌, ◌≤◌, ◌<◌, zero-le}
use native.Mathlib.Omega.{arith}
use mathlib.Core.Path.{◌≡◌, refl, ap, ap₂, ◌∙◌}
use mathlib.Core.List.{List, [], ◌∷◌, ◌++◌}
use lib.ListN.{length, take, drop, take-append-drop}
use lib.Seq.{take-append-le, take-length, drop-length, length-take-le}
use Rattle.std.specs.Prelude.{Some, None}
use Rattle.utf8.specs.Table.{character_length}
use Rattle.utf8.specs.Pieces.{character, bytes_of, all_bytes, piece_at, later, cut, pieces, first_stray, first_ill_formed, Starts}
use Rattle.utf8.proofs.Rows.{shape, length-append_char}

-- what belongs to a piece already cut is passed over
pub cut-drop : (k : ℕ) (xs : List ℕ) → cut k xs ≡ cut 0 (drop k xs)
unfolding cut
cut-drop zero xs = refl
cut-drop (suc k) [] = refl
cut-drop (suc k) (x ∷ xs) = cut-drop k xs

pub cut-here : (x : ℕ) (xs : List ℕ) → pieces (x ∷ xs) ≡ piece_at (character_length (x ∷ xs)) x xs ∷ cut (later (character_length (x ∷ xs))) xs
unfolding cut
cut-here x xs = refl

later-within : (n : ℕ) (x : ℕ) (xs : List ℕ) → n ≤ length (x ∷ xs) → later n ≤ length xs
later-within zero x xs h = zero-le
later-within (suc n) x xs h = omega arith

pub later-in : (x : ℕ) (xs : List ℕ) → later (character_length (x ∷ xs)) ≤ length xs
later-in x xs = later-within (character_length (x ∷ xs)) x xs (shape (x ∷ xs)).within

pub piece_bytes : (n x : ℕ) (xs : List ℕ) → bytes_of (piece_at n x xs) ≡ x ∷ take (later n) xs
piece_bytes zero x xs = refl
piece_bytes (suc n) x xs = refl

piece_append : (n x : ℕ) (xs ys : List ℕ) → later n ≤ length xs → piece_at n x (xs ++ ys) ≡ piece_at n x xs
piece_append zero x xs ys h = refl
piece_append (suc n) x xs ys h = ap (λ r. character (x ∷ r)) (take-append-le n xs ys h)

-- the pieces of a text are its bytes
all_drop : (k : ℕ) (xs : List ℕ) → all_bytes (cut k xs) ≡ drop k xs
unfolding cut
all_drop zero [] = refl
all_drop (suc k) [] = refl
all_drop (suc k) (x ∷ xs) = all_drop k xs
all_drop zero (x ∷ xs) =
    let n = later (character_length (x ∷ xs)) in
    ap₂ (λ a b. a ++ b) (piece_bytes (character_length (x ∷ xs)) x xs) (all_drop n xs) ∙ ap (λ r. x ∷ r) (take-append-drop n xs)

pub all-bytes : (xs : List ℕ) → all_bytes (pieces xs) ≡ xs
all-bytes xs = all_drop 0 xs

cut-append : (k : ℕ) (xs ys : List ℕ) → k ≤ length xs → Starts ys → cut k (xs ++ ys) ≡ cut k xs ++ pieces ys
unfolding cut
cut-append zero [] ys h n = refl
cut-append (suc k) [] ys h n = absurd (omega arith)
cut-append (suc k) (x ∷ xs) ys h n = cut-append k xs ys (omega arith) n
cut-append zero (x ∷ xs) ys h n =
    let l = later-in x xs in
    rw (length-append_char x xs ys n)
    (ap₂ (λ p ps. p ∷ ps) (piece_append (character_length (x ∷ xs)) x xs ys l) (cut-append (later (character_length (x ∷ xs))) xs ys l n))

-- a text that goes on with none of 80 to BF is cut there
pub pieces-append : (xs ys : List ℕ) → Starts ys → pieces (xs ++ ys) ≡ pieces xs ++ pieces ys
pieces-append xs ys n = cut-append 0 xs ys zero-le n

-- a character by itself
pub pieces-one : (x : ℕ) (xs : List ℕ) → character_length (x ∷ xs) ≡ length (x ∷ xs) → pieces (x ∷ xs) ≡ character (x ∷ xs) ∷ []
unfolding cut
pieces-one x xs e = rw e (ap₂ (λ r ps. character (x ∷ r) ∷ ps) (take-length xs) (cut-drop (length xs) xs ∙ ap (cut 0) (drop-length xs)))

-- ── the first ill-formed byte

ill_cons : (p n x : ℕ) (xs : List ℕ) → later n ≤ length xs → (n ≡ 0 → ⊥) → first_stray p (piece_at n x xs ∷ cut (later n) xs) ≡ first_ill_formed (p + n) (drop n (x ∷ xs))
unfolding first_ill_formed
ill_cons p zero x xs h e = absurd (e refl)
ill_cons p (suc n) x xs h e = ap₂ first_stray (ap (λ k. p + suc k) (length-take-le n xs h)) (cut-drop n xs)

pub ill_on : (p : ℕ) (xs : List ℕ) → 0 < length xs → (character_length xs ≡ 0 → ⊥) → first_ill_formed p xs ≡ first_ill_formed (p + character_length xs) (drop (character_length xs) xs)
unfolding first_ill_formed
ill_on p [] h e = absurd (omega arith)
ill_on p (x ∷ xs) h e = ap (first_stray p) (cut-here x xs) ∙ ill_cons p (character_length (x ∷ xs)) x xs (later-in x xs) e

pub ill_here : (p : ℕ) (xs : List ℕ) → 0 < length xs → character_length xs ≡ 0 → first_ill_formed p xs ≡ Some p
unfolding first_ill_formed
ill_here p [] h e = absurd (omega arith)
ill_here p (x ∷ xs) h e = ap (first_stray p) (cut-here x xs) ∙ ap (λ n. first_stray p (piece_at n x xs ∷ cut (later n) xs)) e

pub ill_none : (p : ℕ) → first_ill_formed p [] ≡ None
unfolding first_ill_formed cut
ill_none p = refl
