-- The white-space character that ends a text, by the text's last bytes.
use Prim.Native.Nat.{ℕ, suc, ◌+◌, ◌-◌, ◌≤◌, ◌<◌}
use native.Mathlib.Omega.{arith}
use mathlib.Core.Path.{◌≡◌, refl, sym, ap, ap₂, ◌∙◌}
use mathlib.Core.Bool.{Bool, true, false, cond, not, ◌&&◌, false≢true}
use mathlib.Core.List.{List, [], ◌∷◌, ◌++◌, append-nil, append_assoc}
use lib.ListN.{length, take, drop, get_or, length-append, take-append-drop, drop_of_length-le}
use lib.Seq.{drop-cons, get_or-append-add}
use lib.Dec.{eqb}
use borrow.Author.Tests.{eqb-true, eqb-false, not-true}
use Rattle.std.proofs.lemmas.Bool.{and_parts, both_ways}
use Rattle.utf8.specs.Table.{holds, character_length}
use Rattle.utf8.specs.Pieces.{Piece, character, stray, bytes_of, all_bytes, pieces, is_trailing, Starts}
use Rattle.utf8.specs.WhiteSpace.{white_characters, is_white_space}
use Rattle.utf8.specs.Trimming.{is_white_byte}
use Rattle.utf8.specs.Steps.{white_pair, white_triple, white_bytes, end_white}
use Rattle.utf8.proofs.Rows.{trailing_below}
use Rattle.utf8.proofs.Cutting.{all-bytes, pieces-append, pieces-one}
use Rattle.utf8.proofs.CharacterLength.{one}
use Rattle.utf8.proofs.WhiteSpaceBytes.{white, all, listed-all, white_bytes_lem, white_is, not_white}

-- ── each white-space character is a well-formed character

whole : List ℕ → Bool
whole c = eqb (character_length c) (length c) && not (is_trailing (get_or c 0 0))

all_whole_lem : all whole white_characters ≡ true
unfolding whole character_length is_trailing holds
all_whole_lem = refl

is_whole : (c : List ℕ) → white c ≡ true → whole c ≡ true
unfolding is_white_space
is_whole c e = listed-all whole white_characters all_whole_lem c e

pub white_starts : (c : List ℕ) → white c ≡ true → Starts c
unfolding whole
white_starts c e = not-true (is_trailing (get_or c 0 0)) (and_parts (eqb (character_length c) (length c)) (not (is_trailing (get_or c 0 0))) (is_whole c e)).1

pub white_piece : (c : List ℕ) → white c ≡ true → pieces c ≡ character c ∷ []
unfolding whole
white_piece [] e = absurd (false≢true (white_bytes_lem [] e))
white_piece (x ∷ xs) e =
    pieces-one x xs (eqb-true (character_length (x ∷ xs)) (length (x ∷ xs)) (and_parts (eqb (character_length (x ∷ xs)) (length (x ∷ xs))) (not (is_trailing x)) (is_whole (x ∷ xs) e)).0)

pub some_bytes : (c : List ℕ) → white c ≡ true → length c ≡ 0 → ⊥
some_bytes [] e z = false≢true (white_bytes_lem [] e)
some_bytes (x ∷ xs) e z = omega arith

-- ── the last piece

end_snoc : (ps : List Piece) (p : Piece) → end_white (ps ++ (p ∷ [])) ≡ cond (is_white_space p) (length (bytes_of p)) 0
unfolding end_white
end_snoc [] p = refl
end_snoc (q ∷ []) p = refl
end_snoc (q ∷ r ∷ ps) p = end_snoc (r ∷ ps) p

pub is-end : (us c : List ℕ) → white c ≡ true → end_white (pieces (us ++ c)) ≡ length c
is-end us c e =
    ap end_white (pieces-append us c (white_starts c e) ∙ ap (λ ps. pieces us ++ ps) (white_piece c e))
    ∙ end_snoc (pieces us) (character c)
    ∙ ap (λ t. cond t (length c) 0) e

end-ascii : (us : List ℕ) (c : ℕ) → c < 0x80 → end_white (pieces (us ++ (c ∷ []))) ≡ cond (is_white_byte c) 1 0
end-ascii us c h =
    ap end_white (pieces-append us (c ∷ []) (trailing_below c h) ∙ ap (λ ps. pieces us ++ ps) (pieces-one c [] (one c [] h)))
    ∙ end_snoc (pieces us) (character (c ∷ []))
    ∙ ap (λ t. cond t 1 0) (white_is (c ∷ []))

pub record Ending (ps : List Piece) : Type 0 where
  pub front : List Piece
  pub last : List ℕ
  pub parts : ps ≡ front ++ (character last ∷ [])
  pub is_white : white last ≡ true

ending : (ps : List Piece) → (end_white ps ≡ 0 → ⊥) → Ending ps
unfolding end_white is_white_space
ending [] h = absurd (h refl)
ending (character c ∷ []) h = go (white c) refl h
  where
    go : (t : Bool) → white c ≡ t → (cond t (length c) 0 ≡ 0 → ⊥) → Ending (character c ∷ [])
    go true e h = record { front = []; last = c; parts = refl; is_white = e }
    go false e h = absurd (h refl)
ending (stray b ∷ []) h = absurd (h refl)
ending (p ∷ q ∷ ps) h =
    let e = ending (q ∷ ps) h in
    record { front = p ∷ e.front; last = e.last; parts = ap (λ qs. p ∷ qs) e.parts; is_white = e.is_white }

pub all_append : (ps qs : List Piece) → all_bytes (ps ++ qs) ≡ all_bytes ps ++ all_bytes qs
all_append [] qs = refl
all_append (p ∷ ps) qs = ap (λ r. bytes_of p ++ r) (all_append ps qs) ∙ sym (append_assoc (bytes_of p) (all_bytes ps) (all_bytes qs))

-- the same of a text: its bytes before, and its last character
pub record Ended (ys : List ℕ) (n : ℕ) : Type 0 where
  pub before : List ℕ
  pub last : List ℕ
  pub parts : ys ≡ before ++ last
  pub is_white : white last ≡ true
  pub long : n ≡ length last

pub ended : (ys : List ℕ) (n : ℕ) → n ≡ end_white (pieces ys) → (n ≡ 0 → ⊥) → Ended ys n
ended ys n e h =
    let w = ending (pieces ys) (λ z. h (e ∙ z)) in
    record {
      before = all_bytes w.front;
      last = w.last;
      parts = sym (all-bytes ys) ∙ ap all_bytes w.parts ∙ all_append w.front (character w.last ∷ []) ∙ ap (λ r. all_bytes w.front ++ r) (append-nil w.last);
      is_white = w.is_white;
      long = e ∙ ap end_white w.parts ∙ end_snoc w.front (character w.last) ∙ ap (λ t. cond t (length w.last) 0) w.is_white;
    }

no_end_lem : (ys : List ℕ) → ((us c : List ℕ) → ys ≡ us ++ c → white c ≡ true → ⊥) → 0 ≡ end_white (pieces ys)
no_end_lem ys h = go (eqb (end_white (pieces ys)) 0) refl
  where
    go : (t : Bool) → eqb (end_white (pieces ys)) 0 ≡ t → 0 ≡ end_white (pieces ys)
    go true w = sym (eqb-true (end_white (pieces ys)) 0 w)
    go false w = let e = ended ys (end_white (pieces ys)) refl (eqb-false (end_white (pieces ys)) 0 w) in absurd (h e.before e.last e.parts e.is_white)

-- ── by the last bytes

module _ (ys : List ℕ) where
  abbrev byte : ℕ → ℕ
  byte k = get_or ys (length ys - k) 0

  abbrev Before : ℕ → Type 0
  Before k = k ≡ end_white (pieces ys)

  -- the bytes of a part at the end
  part : (us c : List ℕ) → ys ≡ us ++ c → (k j : ℕ) → k < length c → j + k ≡ length c → get_or c k 0 ≡ byte j
  part us c e k j h i =
      let l : length us + length c ≡ length ys = sym (length-append us c) ∙ ap length (sym e) in
      let m : length us + k ≡ length ys - j = omega arith in
      sym (get_or-append-add us c k 0) ∙ ap (λ r. get_or r (length us + k) 0) (sym e) ∙ ap (λ i. get_or ys i 0) m

  long : (us c : List ℕ) → ys ≡ us ++ c → length c ≤ length ys
  long us c e = omega (arith, sym (length-append us c) ∙ ap length (sym e))

  pub none_before :
      (1 ≤ length ys → is_white_byte (byte 1) ≡ false) → (2 ≤ length ys → white_pair (byte 2) (byte 1) ≡ false)
      → (3 ≤ length ys → white_triple (byte 3) (byte 2) (byte 1) ≡ false) → Before 0
  none_before p q r = no_end_lem ys (λ us c e w. go us c e (white_bytes_lem c w))
    where
      go : (us c : List ℕ) → ys ≡ us ++ c → white_bytes c ≡ true → ⊥
      go us [] e w = false≢true w
      go us (x ∷ []) e w = both_ways _ (ap is_white_byte (part us (x ∷ []) e 0 1 (omega arith) (omega arith)) ∙ p (long us (x ∷ []) e)) w
      go us (x ∷ y ∷ []) e w =
          let f = part us (x ∷ y ∷ []) e in
          both_ways _ (ap₂ white_pair (f 0 2 (omega arith) (omega arith)) (f 1 1 (omega arith) (omega arith)) ∙ q (long us (x ∷ y ∷ []) e)) w
      go us (x ∷ y ∷ z ∷ []) e w =
          let f = part us (x ∷ y ∷ z ∷ []) e in
          let g = f 0 3 (omega arith) (omega arith) in
          both_ways _ (ap (λ k. white_triple k y z) g ∙ ap₂ (white_triple (byte 3)) (f 1 2 (omega arith) (omega arith)) (f 2 1 (omega arith) (omega arith)) ∙ r (long us (x ∷ y ∷ z ∷ []) e)) w
      go us (x ∷ y ∷ z ∷ u ∷ c) e w = false≢true w

  -- the last k bytes, and with one more before them
  abbrev last : ℕ → List ℕ
  last k = drop (length ys - k) ys

  last_none : last 0 ≡ []
  last_none = drop_of_length-le ys (omega arith)

  last_more : (k : ℕ) → suc k ≤ length ys → last (suc k) ≡ byte (suc k) ∷ last k
  last_more k h =
      let e : suc (length ys - suc k) ≡ length ys - k = omega arith in
      drop-cons ys (length ys - suc k) 0 (omega arith) ∙ ap (λ i. byte (suc k) ∷ drop i ys) e

  last_one : 1 ≤ length ys → last 1 ≡ byte 1 ∷ []
  last_one h = last_more 0 h ∙ ap (λ r. byte 1 ∷ r) last_none

  last_two : 2 ≤ length ys → last 2 ≡ byte 2 ∷ byte 1 ∷ []
  last_two h = last_more 1 h ∙ ap (λ r. byte 2 ∷ r) (last_one (omega arith))

  last_three : 3 ≤ length ys → last 3 ≡ byte 3 ∷ byte 2 ∷ byte 1 ∷ []
  last_three h = last_more 2 h ∙ ap (λ r. byte 3 ∷ r) (last_two (omega arith))

  abbrev front : ℕ → List ℕ
  front k = take (length ys - k) ys

  split : (k : ℕ) (c : List ℕ) → last k ≡ c → ys ≡ front k ++ c
  split k c e = sym (take-append-drop (length ys - k) ys) ∙ ap (λ r. front k ++ r) e

  ending_in : (k : ℕ) (c : List ℕ) → last k ≡ c → white_bytes c ≡ true → Before (length c)
  ending_in k c e w = sym (ap (λ r. end_white (pieces r)) (split k c e) ∙ is-end (front k) c (white_is c ∙ w))

  pub byte-before : 1 ≤ length ys → is_white_byte (byte 1) ≡ true → Before 1
  byte-before p w = ending_in 1 (byte 1 ∷ []) (last_one p) w

  pub pair-before : 2 ≤ length ys → white_pair (byte 2) (byte 1) ≡ true → Before 2
  pair-before p h = ending_in 2 (byte 2 ∷ byte 1 ∷ []) (last_two p) h

  pub triple_before : 3 ≤ length ys → white_triple (byte 3) (byte 2) (byte 1) ≡ true → Before 3
  triple_before p h = ending_in 3 (byte 3 ∷ byte 2 ∷ byte 1 ∷ []) (last_three p) h

  -- the test that most texts need
  pub solid_before : 1 ≤ length ys → 33 ≤ byte 1 → byte 1 ≤ 127 → Before 0
  solid_before p u v =
      sym (ap (λ r. end_white (pieces r)) (split 1 (byte 1 ∷ []) (last_one p)) ∙ end-ascii (front 1) (byte 1) (omega arith) ∙ ap (λ b. cond b 1 0) (not_white (byte 1) (omega arith) (λ z. omega arith)))
