-- In a well-formed text a place lies inside a character exactly if its byte is one of 80 to BF; the parts of such a text that are cut between
-- characters are well-formed.
use Prim.Native.Nat.{ℕ, zero, suc, ◌+◌, ◌-◌, ◌≤◌, ◌<◌}
use native.Mathlib.Nat.{add-zero, zero-add, suc-add}
use native.Mathlib.Omega.{arith}
use mathlib.Core.Path.{◌≡◌, refl, sym, ap, ◌∙◌}
use mathlib.Core.Bool.{Bool, true, false, cond}
use mathlib.Core.List.{List, [], ◌∷◌, ◌++◌}
use lib.ListN.{length, take, drop, get_or, take-append-drop}
use lib.Seq.{length-take-le, drop-drop, get_or-drop}
use lib.Dec.{ltb}
use borrow.Author.Tests.{lt-ltb, ltb-true, ltb-false}
use Rattle.basics.specs.Bytes.{token_text}
use Rattle.std.specs.Prelude.{None}
use Rattle.utf8.specs.Table.{holds, character_length}
use Rattle.utf8.specs.Pieces.{Piece, character, stray, piece_at, later, cut, pieces, first_stray, first_ill_formed, WellFormed, inside, is_trailing, Boundary, Starts}
use Rattle.utf8.proofs.Rows.{Shape, shape}
use Rattle.utf8.proofs.Cutting.{pieces-append}

module _ (x : ℕ) (xs : List ℕ) where
  -- a place among the first suc m bytes
  among_first : (m : ℕ) → Shape (x ∷ xs) (suc m) → (p : ℕ) → p < suc m → ltb 0 p ≡ is_trailing (get_or (x ∷ xs) p 0)
  among_first m s zero h = sym (s.head (omega arith))
  among_first m s (suc k) h = lt-ltb 0 (suc k) (omega arith) ∙ sym (s.tail k h)

  step : (n : ℕ) → Shape (x ∷ xs) n
      → ((q p : ℕ) → first_stray q (cut (later n) xs) ≡ None → inside p (cut (later n) xs) ≡ is_trailing (get_or xs (later n + p) 0))
      → (q p : ℕ) → first_stray q (piece_at n x xs ∷ cut (later n) xs) ≡ None
      → inside p (piece_at n x xs ∷ cut (later n) xs) ≡ is_trailing (get_or (x ∷ xs) p 0)
  step zero s ih q p e = cc
  step (suc m) s ih q p e =
      let h : m ≤ length xs = omega (arith, s.within) in
      let l = length-take-le m xs h in
      rw l (go (ltb p (suc m)) refl (ih (q + suc (length (take m xs))) (p - suc m) e))
    where
      go : (t : Bool) → ltb p (suc m) ≡ t → inside (p - suc m) (cut m xs) ≡ is_trailing (get_or xs (m + (p - suc m)) 0)
          → cond t (ltb 0 p) (inside (p - suc m) (cut m xs)) ≡ is_trailing (get_or (x ∷ xs) p 0)
      go true w i = among_first m s p (ltb-true p (suc m) w)
      go false w i =
          let u = ltb-false p (suc m) w in
          let v : suc (m + (p - suc m)) ≡ p = omega arith in
          i ∙ ap (λ k. is_trailing (get_or (x ∷ xs) k 0)) v

inside-cut : (k : ℕ) (xs : List ℕ) (q p : ℕ) → first_stray q (cut k xs) ≡ None → inside p (cut k xs) ≡ is_trailing (get_or xs (k + p) 0)
unfolding cut is_trailing holds
inside-cut zero [] q p e = refl
inside-cut (suc k) [] q p e = refl
inside-cut (suc k) (x ∷ xs) q p e = rw suc-add (inside-cut k xs q p e)
inside-cut zero (x ∷ xs) q p e =
    rw zero-add (step x xs (character_length (x ∷ xs)) (shape (x ∷ xs)) (λ q' p'. inside-cut (later (character_length (x ∷ xs))) xs q' p') q p e)

pub inside-trailing : (text : List ℕ) → WellFormed text → (p : ℕ) → inside p (pieces text) ≡ is_trailing (get_or text p 0)
unfolding first_ill_formed
inside-trailing text w p = inside-cut 0 text 0 p w ∙ ap (λ k. is_trailing (get_or text k 0)) (zero-add p)

-- ── parts

-- where nothing is ill-formed, it does not matter from where places are counted
stray-from : (p q : ℕ) (ps : List Piece) → first_stray p ps ≡ None → first_stray q ps ≡ None
stray-from p q [] e = refl
stray-from p q (character c ∷ ps) e = stray-from (p + length c) (q + length c) ps e
stray-from p q (stray b ∷ ps) e = cc

stray-front : (p : ℕ) (ps qs : List Piece) → first_stray p (ps ++ qs) ≡ None → first_stray p ps ≡ None
stray-front p [] qs e = refl
stray-front p (character c ∷ ps) qs e = stray-front (p + length c) ps qs e
stray-front p (stray b ∷ ps) qs e = e

stray-back : (p : ℕ) (ps qs : List Piece) → first_stray p (ps ++ qs) ≡ None → first_stray p qs ≡ None
stray-back p [] qs e = e
stray-back p (character c ∷ ps) qs e = stray-from (p + length c) p qs (stray-back (p + length c) ps qs e)
stray-back p (stray b ∷ ps) qs e = cc

module _ (xs ys : List ℕ) (starts : Starts ys) where
  pub well_front : WellFormed (xs ++ ys) → WellFormed xs
  unfolding first_ill_formed
  well_front w = stray-front 0 (pieces xs) (pieces ys) (sym (ap (first_stray 0) (pieces-append xs ys starts)) ∙ w)

  pub well_back : WellFormed (xs ++ ys) → WellFormed ys
  unfolding first_ill_formed
  well_back w = stray-back 0 (pieces xs) (pieces ys) (sym (ap (first_stray 0) (pieces-append xs ys starts)) ∙ w)

-- what begins at a place that lies inside no character
pub starts-at : (text : List ℕ) (p : ℕ) → Boundary text p → Starts (drop p text)
starts-at text p e = rw (get_or-drop p text 0 0, add-zero) e

starts-take : (n : ℕ) (xs : List ℕ) → Starts xs → Starts (take n xs)
unfolding is_trailing holds
starts-take zero xs s = refl
starts-take (suc n) [] s = refl
starts-take (suc n) (x ∷ xs) s = s

-- ── a span whose start lies inside no character begins with one, whatever is written before it
pub span-starts : (text : List ℕ) (start end : ℕ) → Boundary text start → Starts (token_text text start end)
unfolding token_text
span-starts text start end b = starts-take (end - start) (drop start text) (starts-at text start b)

-- and where neither start nor end does, its characters are the text's
module _ (text : List ℕ) (start end : ℕ) (order : start ≤ end) (at-start : Boundary text start) (at-end : Boundary text end) where
  after : drop (end - start) (drop start text) ≡ drop end text
  after = let l : start + (end - start) ≡ end = omega arith in drop-drop (end - start) start text ∙ ap (λ k. drop k text) l

  after-starts : Starts (drop (end - start) (drop start text))
  after-starts = rw after (starts-at text end at-end)

  pub span-pieces : pieces text ≡ pieces (take start text) ++ (pieces (token_text text start end) ++ pieces (drop end text))
  unfolding token_text
  span-pieces =
      ap pieces (sym (take-append-drop start text))
      ∙ pieces-append (take start text) (drop start text) (starts-at text start at-start)
      ∙ ap (λ ps. pieces (take start text) ++ ps)
      (ap pieces (sym (take-append-drop (end - start) (drop start text)))
      ∙ pieces-append (take (end - start) (drop start text)) (drop (end - start) (drop start text)) after-starts
      ∙ ap (λ r. pieces (take (end - start) (drop start text)) ++ pieces r) after)

  pub span-well : WellFormed text → WellFormed (token_text text start end)
  unfolding token_text
  span-well w =
      well_front (take (end - start) (drop start text)) (drop (end - start) (drop start text)) after-starts
      (rw (take-append-drop (end - start) (drop start text))
      (well_back (take start text) (drop start text) (starts-at text start at-start) (rw (take-append-drop start text) w)))
