-- Laws of trimming.
use Prim.Native.Nat.{ℕ, zero, suc, ◌+◌, ◌-◌, ◌≤◌, ◌<◌}
use native.Mathlib.Nat.{min-le_right}
use native.Mathlib.Omega.{arith}
use mathlib.Core.Path.{◌≡◌, refl, sym, ap, ap₂, ◌∙◌}
use mathlib.Core.Bool.{Bool, true, false, cond}
use mathlib.Core.List.{List, [], ◌∷◌, ◌++◌, map}
use lib.ListN.{length, take, length-append, length-take}
use lib.Seq.{take-append_seam, take-nil, take-take, length-take-le}
use lib.Dec.{ltb}
use borrow.Author.Tests.{ltb-true, ltb-false}
use Rattle.std.proofs.lemmas.Bool.{and_parts}
use Rattle.utf8.specs.Table.{character_length, is_ascii}
use Rattle.utf8.specs.Pieces.{Piece, character, stray, bytes_of, all_bytes, piece_at, later, cut, pieces, Starts}
use Rattle.utf8.specs.WhiteSpace.{is_white_space}
use Rattle.utf8.specs.Trim.{trim_cons, trim}
use Rattle.utf8.specs.Trimming.{trimmed, trimmed_length, trimmed_after, is_white_byte}
use Rattle.utf8.specs.Steps.{end_white}
use Rattle.utf8.proofs.Cutting.{all-bytes, pieces-append}
use Rattle.utf8.proofs.CharacterLength.{one}
use Rattle.utf8.proofs.WhiteSpaceBytes.{white, white_is, not_white}
use Rattle.utf8.proofs.LastWhiteSpace.{white_starts, white_piece, some_bytes, all_append, Ended, ended}

-- ── for any test of white space

module _ {A : Type 0} (blank : A → Bool) where
  -- a trimmed list follows
  abbrev pub joined : List A → List A → List A → List A
  joined xs t [] = t
  joined xs t (y ∷ ys) = xs ++ (y ∷ ys)

  joined_cons : (x : A) (xs t ys : List A) → trim_cons blank x (joined xs t ys) ≡ joined (x ∷ xs) (trim_cons blank x t) ys
  joined_cons x xs t [] = refl
  joined_cons x [] t (y ∷ ys) = refl
  joined_cons x (z ∷ xs) t (y ∷ ys) = refl

  joined_none : (ys : List A) → joined [] [] ys ≡ ys
  joined_none [] = refl
  joined_none (y ∷ ys) = refl

  pub trim-append : (xs ys : List A) → trim blank (xs ++ ys) ≡ joined xs (trim blank xs) (trim blank ys)
  unfolding trim
  trim-append [] ys = sym (joined_none (trim blank ys))
  trim-append (x ∷ xs) ys = ap (trim_cons blank x) (trim-append xs ys) ∙ joined_cons x xs (trim blank xs) (trim blank ys)

  trim-last : (xs : List A) (x : A) → blank x ≡ true → trim blank (xs ++ (x ∷ [])) ≡ trim blank xs
  unfolding trim
  trim-last xs x e = trim-append xs (x ∷ []) ∙ ap (joined xs (trim blank xs)) (ap (λ t. cond t [] (x ∷ [])) e)

-- ── a scan from the end

-- a white-space character at the end does not count
pub trimmed-back : (us c : List ℕ) → white c ≡ true → trimmed_length (us ++ c) ≡ trimmed_length us
unfolding trimmed_length trimmed
trimmed-back us c e =
    ap (λ ps. length (all_bytes (trim is_white_space ps))) (pieces-append us c (white_starts c e) ∙ ap (λ ps. pieces us ++ ps) (white_piece c e))
    ∙ ap (λ ps. length (all_bytes ps)) (trim-last is_white_space (pieces us) (character c) e)

-- a text that ends in none is kept whole
trim-whole : (ps : List Piece) → 0 ≡ end_white ps → trim is_white_space ps ≡ ps
unfolding trim end_white is_white_space
trim-whole [] e = refl
trim-whole (character c ∷ []) e = go (white c) refl e
  where
    go : (t : Bool) → white c ≡ t → 0 ≡ cond t (length c) 0 → ◌≡◌ {A = List Piece} (cond t [] (character c ∷ [])) (character c ∷ [])
    go true w e = absurd (some_bytes c w (sym e))
    go false w e = refl
trim-whole (stray b ∷ []) e = refl
trim-whole (p ∷ q ∷ ps) e = ap (trim_cons is_white_space p) (trim-whole (q ∷ ps) e)

pub trimmed-whole : (ys : List ℕ) → 0 ≡ end_white (pieces ys) → trimmed_length ys ≡ length ys
unfolding trimmed_length trimmed
trimmed-whole ys e = ap (λ ps. length (all_bytes ps)) (trim-whole (pieces ys) e) ∙ ap length (all-bytes ys)

module _ (text : List ℕ) (n k : ℕ) (within : n ≤ length text) (is : k ≡ end_white (pieces (take n text))) where
  pub stop : k ≡ 0 → trimmed_length (take n text) ≡ n
  stop z = trimmed-whole (take n text) (sym z ∙ is) ∙ length-take-le n text within

  module _ (some : k ≡ 0 → ⊥) where
    found : Ended (take n text) k
    found = ended (take n text) k is some

    lengths : length found.before + k ≡ n
    lengths =
        ap (λ j. length found.before + j) found.long
        ∙ sym (length-append found.before found.last)
        ∙ ap length (sym found.parts)
        ∙ length-take-le n text within

    pub short : k ≤ n
    short = omega (arith, lengths)

    front : found.before ≡ take (n - k) text
    front =
        let l : length found.before ≡ n - k = omega (arith, lengths) in
        sym (take-append_seam found.before found.last)
        ∙ ap₂ take l (sym found.parts)
        ∙ take-take (n - k) n text (omega arith)

    pub back : trimmed_length (take n text) ≡ trimmed_length (take (n - k) text)
    back = ap trimmed_length found.parts ∙ trimmed-back found.before found.last found.is_white ∙ ap trimmed_length front

pub trimmed-nothing : trimmed_length [] ≡ 0
unfolding trimmed_length trimmed cut trim
trimmed-nothing = refl

-- ── a text that follows

abbrev pub width : List Piece → ℕ
width ps = length (all_bytes ps)

after-some : (n k j : ℕ) → (j ≡ 0 → ⊥) → n + j ≡ trimmed_after n k j
after-some n k zero h = absurd (h refl)
after-some n k (suc m) h = refl

-- a piece with at least one byte follows
module _ (us : List Piece) (k : ℕ) (p : Piece) (some : length (bytes_of p) ≡ 0 → ⊥) where
  kept : (qs : List Piece) → width (us ++ (p ∷ qs)) ≡ trimmed_after (width us) k (width (p ∷ qs))
  kept qs =
      ap length (all_append us (p ∷ qs))
      ∙ length-append (all_bytes us) (all_bytes (p ∷ qs))
      ∙ after-some (width us) k (width (p ∷ qs)) (λ z. some (omega (arith, sym (length-append (bytes_of p) (all_bytes qs)) ∙ z)))

  joined_one : (t : List Piece) → width t ≡ k → (b : Bool)
      → width (joined is_white_space us t (cond b [] (p ∷ []))) ≡ trimmed_after (width us) k (width (cond b [] (p ∷ [])))
  joined_one t e true = e
  joined_one t e false = kept []

  pub joined_some : (t : List Piece) → width t ≡ k → (qs : List Piece)
      → width (joined is_white_space us t (trim_cons is_white_space p qs)) ≡ trimmed_after (width us) k (width (trim_cons is_white_space p qs))
  joined_some t e [] = joined_one t e (is_white_space p)
  joined_some t e (q ∷ qs) = kept (q ∷ qs)

pub piece_some : (n y : ℕ) (ys : List ℕ) → length (bytes_of (piece_at n y ys)) ≡ 0 → ⊥
piece_some zero y ys e = omega arith
piece_some (suc n) y ys e = omega arith

width-joined : (us : List Piece) (t : List Piece) (ys : List ℕ)
    → width (joined is_white_space us t (trim is_white_space (pieces ys))) ≡ trimmed_after (width us) (width t) (trimmed_length ys)
unfolding trimmed_length trimmed cut trim
width-joined us t [] = refl
width-joined us t (y ∷ ys) =
    joined_some us (width t) (piece_at (character_length (y ∷ ys)) y ys) (piece_some (character_length (y ∷ ys)) y ys) t refl
    (trim is_white_space (cut (later (character_length (y ∷ ys))) ys))

-- what is written after a text decides over its white space, unless it is white space itself
module _ (xs ys : List ℕ) (apart : pieces (xs ++ ys) ≡ pieces xs ++ pieces ys) where
  trimmed-apart : trimmed_length (xs ++ ys) ≡ trimmed_after (length xs) (trimmed_length xs) (trimmed_length ys)
  unfolding trimmed_length trimmed
  trimmed-apart =
      ap (λ ps. length (all_bytes (trim is_white_space ps))) apart
      ∙ ap (λ ps. length (all_bytes ps)) (trim-append is_white_space (pieces xs) (pieces ys))
      ∙ width-joined (pieces xs) (trim is_white_space (pieces xs)) ys
      ∙ ap (λ r. trimmed_after (length r) (trimmed_length xs) (trimmed_length ys)) (all-bytes xs)

pub trimmed-append : (xs ys : List ℕ) → Starts ys → trimmed_length (xs ++ ys) ≡ trimmed_after (length xs) (trimmed_length xs) (trimmed_length ys)
trimmed-append xs ys s = trimmed-apart xs ys (pieces-append xs ys s)

-- an ASCII byte is a character, whatever follows
pub trimmed-cons : (b : ℕ) (ys : List ℕ) → b < 128 → trimmed_length (b ∷ ys) ≡ trimmed_after 1 (trimmed_length (b ∷ [])) (trimmed_length ys)
unfolding cut
trimmed-cons b ys h = trimmed-apart (b ∷ []) ys (rw (one b ys h, one b [] h))

-- one byte alone
module _ (b : ℕ) where
  alone : (p : Piece) → is_white_space p ≡ is_white_byte b → length (bytes_of p) ≡ 1 → (t : Bool) → is_white_byte b ≡ t
      → length (all_bytes (trim_cons is_white_space p [])) ≡ cond t 0 1
  alone p e l true w = rw (e, w)
  alone p e l false w = rw (e, w) (length-append (bytes_of p) [] ∙ omega arith)

  -- an ASCII byte is a character; another is part of none, and no white space
  white_alone : (n : ℕ) → (n ≡ 0 → 0x80 ≤ b) → is_white_space (piece_at n b []) ≡ is_white_byte b
  unfolding is_white_space
  white_alone zero h = sym (not_white b (omega (arith, h refl)) (λ e. omega (arith, h refl)))
  white_alone (suc n) h = ap (λ r. white (b ∷ r)) (take-nil n) ∙ white_is (b ∷ [])

  bytes-alone : (n : ℕ) → length (bytes_of (piece_at n b [])) ≡ 1
  bytes-alone zero = refl
  bytes-alone (suc n) = ap (λ r. length (b ∷ r)) (take-nil n)

  no_character : character_length (b ∷ []) ≡ 0 → 0x80 ≤ b
  no_character e = go (ltb b 0x80) refl
    where
      go : (t : Bool) → ltb b 0x80 ≡ t → 0x80 ≤ b
      go true w = absurd (omega (arith, one b [] (ltb-true b 0x80 w), e))
      go false w = ltb-false b 0x80 w

  pub trimmed-one : trimmed_length (b ∷ []) ≡ cond (is_white_byte b) 0 1
  unfolding trimmed_length trimmed cut trim
  trimmed-one =
      let n = character_length (b ∷ []) in
      alone (piece_at n b []) (white_alone n no_character) (bytes-alone n) (is_white_byte b) refl

-- the trimmed text is the text's beginning
trim-front : (ps : List Piece) → (rest : List Piece) × (trim is_white_space ps ++ rest ≡ ps)
unfolding trim
trim-front [] = ([], refl)
trim-front (p ∷ ps) = go (trim is_white_space ps) (trim-front ps)
  where
    one_piece : (b : Bool) (rest : List Piece) → rest ≡ ps → (more : List Piece) × (cond b [] (p ∷ []) ++ more ≡ p ∷ ps)
    one_piece true rest e = (p ∷ ps, refl)
    one_piece false rest e = (rest, ap (λ r. p ∷ r) e)

    go : (qs : List Piece) → (rest : List Piece) × (qs ++ rest ≡ ps) → (rest : List Piece) × (trim_cons is_white_space p qs ++ rest ≡ p ∷ ps)
    go [] (rest, e) = one_piece (is_white_space p) rest e
    go (q ∷ qs) (rest, e) = (rest, ap (λ r. p ∷ r) e)

pub trimmed-take : (text : List ℕ) → trimmed text ≡ take (trimmed_length text) text
unfolding trimmed_length trimmed
trimmed-take text =
    let f = trim-front (pieces text) in
    let whole : trimmed text ++ all_bytes f.0 ≡ text = sym (all_append (trim is_white_space (pieces text)) f.0) ∙ ap all_bytes f.1 ∙ all-bytes text in
    sym (take-append_seam (trimmed text) (all_bytes f.0)) ∙ ap (take (length (trimmed text))) whole

pub trimmed-le : (text : List ℕ) → trimmed_length text ≤ length text
unfolding trimmed_length
trimmed-le text = omega (arith, ap length (trimmed-take text), length-take (trimmed_length text) text, min-le_right (trimmed_length text) (length text))

-- ── ASCII

abbrev pub single : ℕ → Piece
single b = character (b ∷ [])

pub pieces-ascii : (text : List ℕ) → is_ascii text ≡ true → pieces text ≡ map single text
unfolding cut
pieces-ascii [] h = refl
pieces-ascii (b ∷ bs) h =
    rw (one b bs (ltb-true b 0x80 (and_parts (ltb b 0x80) (is_ascii bs) h).0)) (ap (λ ps. single b ∷ ps) (pieces-ascii bs (and_parts (ltb b 0x80) (is_ascii bs) h).1))

all-single : (text : List ℕ) → all_bytes (map single text) ≡ text
all-single [] = refl
all-single (b ∷ bs) = ap (λ r. b ∷ r) (all-single bs)

trim-single : (text : List ℕ) → trim is_white_space (map single text) ≡ map single (trim is_white_byte text)
unfolding trim
trim-single [] = refl
trim-single (b ∷ bs) = ap (trim_cons is_white_space (single b)) (trim-single bs) ∙ go (trim is_white_byte bs)
  where
    one_byte : (t : Bool) → ◌≡◌ {A = List Piece} (cond t [] (single b ∷ [])) (map single (cond t [] (b ∷ [])))
    one_byte true = refl
    one_byte false = refl

    go : (xs : List ℕ) → trim_cons is_white_space (single b) (map single xs) ≡ map single (trim_cons is_white_byte b xs)
    go [] = ap (λ t. cond t [] (single b ∷ [])) (white_is (b ∷ [])) ∙ one_byte (is_white_byte b)
    go (x ∷ xs) = refl

-- for an ASCII text nothing is new: white space is the six bytes 9 to 13 and 32
pub trimmed-ascii : (text : List ℕ) → is_ascii text ≡ true → trimmed text ≡ trim is_white_byte text
unfolding trimmed
trimmed-ascii text h =
    ap (λ ps. all_bytes (trim is_white_space ps)) (pieces-ascii text h) ∙ ap all_bytes (trim-single text) ∙ all-single (trim is_white_byte text)
