-- A change of ASCII bytes among themselves that keeps white space, as a change of case, keeps the characters and what is trimmed.
use Prim.Native.Nat.{ℕ, zero, suc, ◌≤◌, ◌<◌}
use native.Mathlib.Omega.{arith}
use mathlib.Core.Path.{◌≡◌, refl, sym, ap, ap₂, ◌∙◌}
use mathlib.Core.Bool.{Bool, true, false, cond, ◌&&◌, ◌||◌}
use mathlib.Core.List.{List, [], ◌∷◌, ◌++◌, map}
use mathlib.Core.Logic.{◌⊎◌, inl, inr}
use lib.ListN.{length, take, length-map}
use lib.Dec.{leb, eqb, ltb}
use borrow.Author.Tests.{leb-true, eqb-true, ltb-true, ltb-false, ne_eqb}
use Rattle.std.proofs.lemmas.Bool.{and_parts, or_cases}
use Rattle.utf8.specs.Table.{Range, ◌‥◌, holds, Row, rows, fits, length_by, character_length}
use Rattle.utf8.specs.Pieces.{Piece, character, stray, all_bytes, piece_at, later, cut, pieces}
use Rattle.utf8.specs.WhiteSpace.{is_white_space}
use Rattle.utf8.specs.Trim.{trim_cons, trim}
use Rattle.utf8.specs.Trimming.{trimmed, trimmed_length, is_white_byte}
use Rattle.utf8.specs.Steps.{white_pair, white_last, white_triple, white_bytes}
use Rattle.utf8.proofs.Tests.{holds-in, holds-below}
use Rattle.utf8.proofs.WhiteSpaceBytes.{white_is}

-- a range holds all of ASCII or nothing of it; so does each of the table
abbrev all_or_none : Range → Bool
all_or_none r = leb 0x80 r.low || (eqb r.low 0x00 && eqb r.high 0x7F)

abbrev all_or_none_row : Row → Bool
all_or_none_row [] = true
all_or_none_row (r ∷ rs) = all_or_none r && all_or_none_row rs

abbrev all_or_none_rows : List Row → Bool
all_or_none_rows [] = true
all_or_none_rows (row ∷ more) = all_or_none_row row && all_or_none_rows more

rows-all_or_none : all_or_none_rows rows ≡ true
rows-all_or_none = refl

abbrev piece_map : (ℕ → ℕ) → Piece → Piece
piece_map f (character c) = character (map f c)
piece_map f (stray b) = stray (f b)

take-map : (f : ℕ → ℕ) (n : ℕ) (xs : List ℕ) → take n (map f xs) ≡ map f (take n xs)
take-map f zero xs = refl
take-map f (suc n) [] = refl
take-map f (suc n) (x ∷ xs) = ap (λ r. f x ∷ r) (take-map f n xs)

piece_map_lem : (f : ℕ → ℕ) (n x : ℕ) (xs : List ℕ) → piece_at n (f x) (map f xs) ≡ piece_map f (piece_at n x xs)
piece_map_lem f zero x xs = refl
piece_map_lem f (suc n) x xs = ap (λ r. character (f x ∷ r)) (take-map f n xs)

map-append : (f : ℕ → ℕ) (xs ys : List ℕ) → map f (xs ++ ys) ≡ map f xs ++ map f ys
map-append f [] ys = refl
map-append f (x ∷ xs) ys = ap (λ r. f x ∷ r) (map-append f xs ys)

bytes-map : (f : ℕ → ℕ) (ps : List Piece) → all_bytes (map (piece_map f) ps) ≡ map f (all_bytes ps)
bytes-map f [] = refl
bytes-map f (character c ∷ ps) = ap (λ r. map f c ++ r) (bytes-map f ps) ∙ sym (map-append f c (all_bytes ps))
bytes-map f (stray b ∷ ps) = ap (λ r. f b ∷ r) (bytes-map f ps)

module _ (f : ℕ → ℕ) (high : (b : ℕ) → 0x80 ≤ b → f b ≡ b) (low : (b : ℕ) → b < 0x80 → f b < 0x80) (same : (b : ℕ) → is_white_byte (f b) ≡ is_white_byte b) where
  holds-map : (r : Range) → all_or_none r ≡ true → (b : ℕ) → holds r (f b) ≡ holds r b
  holds-map r l b = go (ltb b 0x80) refl (or_cases (leb 0x80 r.low) (eqb r.low 0x00 && eqb r.high 0x7F) l)
    where
      go : (t : Bool) → ltb b 0x80 ≡ t → (leb 0x80 r.low ≡ true) ⊎ (eqb r.low 0x00 && eqb r.high 0x7F ≡ true) → holds r (f b) ≡ holds r b
      go false w l = ap (holds r) (high b (ltb-false b 0x80 w))
      go true w (inl l) =
          let u = ltb-true b 0x80 w in
          let v = low b u in
          let k = leb-true 0x80 r.low l in
          holds-below r.low r.high (f b) (omega arith) ∙ sym (holds-below r.low r.high b (omega arith))
      go true w (inr l) =
          let u = ltb-true b 0x80 w in
          let v = low b u in
          let i = eqb-true r.low 0x00 (and_parts (eqb r.low 0x00) (eqb r.high 0x7F) l).0 in
          let j = eqb-true r.high 0x7F (and_parts (eqb r.low 0x00) (eqb r.high 0x7F) l).1 in
          holds-in r.low r.high (f b) (omega arith) (omega arith) ∙ sym (holds-in r.low r.high b (omega arith) (omega arith))

  fits-map : (row : Row) → all_or_none_row row ≡ true → (xs : List ℕ) → fits row (map f xs) ≡ fits row xs
  fits-map [] l xs = refl
  fits-map (r ∷ rs) l [] = refl
  fits-map (r ∷ rs) l (x ∷ xs) =
      ap₂ (λ s t. s && t) (holds-map r (and_parts (all_or_none r) (all_or_none_row rs) l).0 x) (fits-map rs (and_parts (all_or_none r) (all_or_none_row rs) l).1 xs)

  length_by-map : (table : List Row) → all_or_none_rows table ≡ true → (xs : List ℕ) → length_by table (map f xs) ≡ length_by table xs
  length_by-map [] l xs = refl
  length_by-map (row ∷ more) l xs =
      ap₂ (λ t n. cond t (length row) n) (fits-map row (and_parts (all_or_none_row row) (all_or_none_rows more) l).0 xs) (length_by-map more (and_parts (all_or_none_row row) (all_or_none_rows more) l).1 xs)

  character-map : (xs : List ℕ) → character_length (map f xs) ≡ character_length xs
  unfolding character_length
  character-map xs = length_by-map rows rows-all_or_none xs

  cut-map : (k : ℕ) (xs : List ℕ) → cut k (map f xs) ≡ map (piece_map f) (cut k xs)
  unfolding cut
  cut-map zero [] = refl
  cut-map (suc k) [] = refl
  cut-map (suc k) (x ∷ xs) = cut-map k xs
  cut-map zero (x ∷ xs) =
      rw (character-map (x ∷ xs))
      (ap₂ (λ p ps. p ∷ ps) (piece_map_lem f (character_length (x ∷ xs)) x xs) (cut-map (later (character_length (x ∷ xs))) xs))

  equal-map : (k : ℕ) → 0x80 ≤ k → (b : ℕ) → eqb (f b) k ≡ eqb b k
  equal-map k h b = go (ltb b 0x80) refl
    where
      go : (t : Bool) → ltb b 0x80 ≡ t → eqb (f b) k ≡ eqb b k
      go false w = ap (λ n. eqb n k) (high b (ltb-false b 0x80 w))
      go true w =
          let u = ltb-true b 0x80 w in
          let v = low b u in
          ne_eqb (f b) k (λ e. omega arith) ∙ sym (ne_eqb b k (λ e. omega arith))

  bytes-white_map : (c : List ℕ) → white_bytes (map f c) ≡ white_bytes c
  unfolding white_pair white_last white_triple
  bytes-white_map [] = refl
  bytes-white_map (x ∷ []) = same x
  bytes-white_map (x ∷ y ∷ []) = rw (equal-map 0xC2 (omega arith) x, equal-map 0x85 (omega arith) y, equal-map 0xA0 (omega arith) y)
  bytes-white_map (x ∷ y ∷ z ∷ []) =
      rw (
        equal-map 0xE2 (omega arith) x,
        equal-map 0xE1 (omega arith) x,
        equal-map 0xE3 (omega arith) x,
        equal-map 0x80 (omega arith) y,
        equal-map 0x81 (omega arith) y,
        equal-map 0x9A (omega arith) y,
        holds-map (0x80 ‥ 0x8A) refl z,
        equal-map 0xA8 (omega arith) z,
        equal-map 0xA9 (omega arith) z,
        equal-map 0xAF (omega arith) z,
        equal-map 0x9F (omega arith) z,
        equal-map 0x80 (omega arith) z,
      )
  bytes-white_map (x ∷ y ∷ z ∷ u ∷ c) = refl

  white_map : (p : Piece) → is_white_space (piece_map f p) ≡ is_white_space p
  unfolding is_white_space
  white_map (character c) = white_is (map f c) ∙ bytes-white_map c ∙ sym (white_is c)
  white_map (stray b) = refl

  trim-map : (ps : List Piece) → trim is_white_space (map (piece_map f) ps) ≡ map (piece_map f) (trim is_white_space ps)
  unfolding trim
  trim-map [] = refl
  trim-map (p ∷ ps) = ap (trim_cons is_white_space (piece_map f p)) (trim-map ps) ∙ go (trim is_white_space ps)
    where
      one_piece : (t : Bool) → ◌≡◌ {A = List Piece} (cond t [] (piece_map f p ∷ [])) (map (piece_map f) (cond t [] (p ∷ [])))
      one_piece true = refl
      one_piece false = refl

      go : (qs : List Piece) → trim_cons is_white_space (piece_map f p) (map (piece_map f) qs) ≡ map (piece_map f) (trim_cons is_white_space p qs)
      go [] = ap (λ t. cond t [] (piece_map f p ∷ [])) (white_map p) ∙ one_piece (is_white_space p)
      go (q ∷ qs) = refl

  pub trimmed-map : (text : List ℕ) → trimmed (map f text) ≡ map f (trimmed text)
  unfolding trimmed
  trimmed-map text = ap (λ ps. all_bytes (trim is_white_space ps)) (cut-map 0 text) ∙ ap all_bytes (trim-map (pieces text)) ∙ bytes-map f (trim is_white_space (pieces text))

  pub trimmed_length-map : (text : List ℕ) → trimmed_length (map f text) ≡ trimmed_length text
  unfolding trimmed_length
  trimmed_length-map text = ap length (trimmed-map text) ∙ length-map (trimmed text) f
