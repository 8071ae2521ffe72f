-- Laws of lines and columns: byte by byte, and for the map's pairs.
use Prim.Native.Nat.{ℕ, zero, suc, ◌+◌, ◌-◌, ◌≤◌, ◌<◌}
use native.Mathlib.Omega.{arith}
use native.Mathlib.Numerals.{add-one, unary_clauses}
use mathlib.Core.Path.{◌≡◌, refl, sym, ap, ◌∙◌, subst}
use mathlib.Core.Bool.{true, false}
use mathlib.Core.List.{List, [], ◌∷◌, ◌++◌}
use lib.ListN.{length, get_or, set, take, drop, length-drop}
use lib.Seq.{take-suc, take_all, length-take-le}
use lib.Dec.{eqb}
use borrow.Author.Tests.{ne_eqb, le-ltb}
use Rattle.std.proofs.Common.{min, inl, inr}
use Rattle.std.proofs.lemmas.Bool.{cases_lt}
use Rattle.std.proofs.lemmas.Bool.Decides.{nat_tests}
use Rattle.layout.specs.Lines.{Spot, first_spot, turned, spot_after, spot_at}
use Rattle.layout.specs.TokenMap.{entry}
use Rattle.token_map.specs.Spots.{spots, EndsAt, LineOf}
use Rattle.std.proofs.lemmas.List.{get_or-drop}
use Rattle.std.specs.List.{AllWithin, HoldsAt}
use Rattle.token_map.specs.declared.Line.{Line}

-- ── bytes

spot_append : (a b : List ℕ) (p : Spot) → spot_after (a ++ b) p ≡ spot_after b (spot_after a p)
unfolding spot_after
spot_append [] b p = refl
spot_append (x ∷ a) b p = spot_append a b (turned x p)

-- one byte more
spot_next : (bs : List ℕ) (n : ℕ) → n < length bs → turned (get_or bs n 0) (spot_at bs n) ≡ spot_at bs (suc n)
unfolding spot_after
spot_next bs n h =
    sym (ap (λ (l : List ℕ). spot_after l first_spot) (take-suc bs n 0 h) ∙ spot_append (take n bs) (get_or bs n 0 ∷ []) first_spot)

-- past the end there is one spot
pub spot_past : (bs : List ℕ) (m n : ℕ) → length bs ≤ m → length bs ≤ n → spot_at bs m ≡ spot_at bs n
spot_past bs m n h k = ap (λ (l : List ℕ). spot_after l first_spot) (take_all m bs h ∙ sym (take_all n bs k))

-- there are no more lines than bytes gone over, and one
turned-few : (b : ℕ) (p : Spot) → (turned b p).line ≤ p.line + 1
turned-few b p = grind (arith, nat_tests)

after-few : (bs : List ℕ) (p : Spot) → (spot_after bs p).line ≤ p.line + length bs
unfolding spot_after
after-few [] p = omega arith
after-few (b ∷ bs) p = omega (arith, after-few bs (turned b p), turned-few b p)

spot_few : (bs : List ℕ) (n : ℕ) → n ≤ length bs → (spot_at bs n).line ≤ n + 1
spot_few bs n h = omega (arith, after-few (take n bs) first_spot, length-take-le n bs h)

-- ── lines

-- where a search over the bytes from an offset on ends
module _ (bs : List ℕ) (from : ℕ) (within : from ≤ length bs) where
  abbrev pub rest : List ℕ
  rest = take (length bs - from) (drop from bs)

  rest-drop : rest ≡ drop from bs
  rest-drop = take_all (length bs - from) (drop from bs) (omega (arith, length-drop from bs))

  rest-length : length rest ≡ length bs - from
  rest-length = ap length rest-drop ∙ length-drop from bs

  rest-at : (j : ℕ) → from ≤ j → get_or rest (j - from) 0 ≡ get_or bs j 0
  rest-at j h =
      let e : from + (j - from) ≡ j = omega arith in
      rw rest-drop (get_or-drop from bs (j - from) 0 ∙ ap (λ i. get_or bs i 0) e)

  none-before : (n : ℕ) → AllWithin (λ b. eqb b 10 ≡ false) rest 0 n → (j : ℕ) → from ≤ j → j < from + n → eqb (get_or bs j 0) 10 ≡ false
  none-before n none j h k = rw (← rest-at j h) (none (j - from) 0 (omega arith) (omega arith))

  pub ends-found : (n : ℕ) → n < length rest → HoldsAt (λ b. eqb b 10 ≡ true) rest n → AllWithin (λ b. eqb b 10 ≡ false) rest 0 n → EndsAt bs from (from + n)
  ends-found n inside here none =
      let e : from + n - from ≡ n = omega arith in
      record {
        ordered = omega arith;
        within = omega (arith, rest-length);
        none = none-before n none;
        newline = λ _. rw (← rest-at (from + n) (omega arith), e) (here 0);
      }

  pub ends-last : AllWithin (λ b. eqb b 10 ≡ false) rest 0 (length rest) → EndsAt bs from (length bs)
  ends-last none =
      record {
        ordered = within;
        within = omega arith;
        none = λ j h k. none-before (length rest) none j h (omega (arith, rest-length));
        newline = λ h. absurd (omega arith);
      }

module _ {bs : List ℕ} {l : Line} (line : LineOf bs l) where
  -- n bytes on in the line
  spot_on : (n : ℕ) → l.start + n ≤ l.end → spot_at bs (l.start + n) ≡ record { line = l.number; column = n + 1 }
  spot_on zero h = simp unary_clauses line.agrees
  spot_on (suc n) h =
      simp unary_clauses
      (sym (spot_next bs (l.start + n) (omega (arith, line.ends.within)))
      ∙ rw (line.ends.none (l.start + n) (omega arith) (omega arith), spot_on n (omega arith), add-one))

  pub spot_in : (at : ℕ) → l.start ≤ at → at ≤ l.end → spot_at bs at ≡ record { line = l.number; column = at - l.start + 1 }
  spot_in at h k =
      let e : l.start + (at - l.start) ≡ at = omega arith in
      subst (λ x. spot_at bs x ≡ record { line = l.number; column = at - l.start + 1 }) e (spot_on (at - l.start) (omega arith))

  -- the next line begins after the newline
  pub spot_turned : l.end < length bs → spot_at bs (l.end + 1) ≡ record { line = l.number + 1; column = 1 }
  spot_turned h =
      let e : l.end + 1 ≡ suc l.end = add-one l.end in
      rw e (sym (spot_next bs l.end h) ∙ rw (line.ends.newline h, spot_in l.end line.ends.ordered (omega arith), add-one))

  pub line-few : l.number ≤ l.start + 1
  line-few = subst (λ (p : Spot). p.line ≤ l.start + 1) line.agrees (spot_few bs l.start (omega (arith, line.ends.ordered, line.ends.within)))

-- the entry of a place from 1 to k, by the line that its offset is in; one past the bytes has the line and column of their end
pub entry-in : {bs : List ℕ} {l : Line} (k place at : ℕ) → LineOf bs l → (place ≡ 0 → ⊥) → place ≤ k → at ≡ min (place - 1) (length bs)
    → l.start ≤ at → at ≤ l.end → entry k bs place ≡ record { line = l.number; column = at - l.start + 1 }
entry-in {bs} {l} k place at line some few e h j = rw (ne_eqb place 0 some, le-ltb k place few) (here ∙ spot_in line at h j)
  where
    here : spot_at bs (place - 1) ≡ spot_at bs at
    here = elim (cases_lt (length bs) (place - 1)) as (λ _. spot_at bs (place - 1) ≡ spot_at bs at) [ inl x ↦ spot_past bs (place - 1) at (omega arith) (omega arith) | inr x ↦ ap (spot_at bs) (omega arith) ]

-- ── the pairs of the map

module _ (k : ℕ) (bs : List ℕ) where
  -- a pair more is done
  pub spots-step : (m : List ℕ) (i x y : ℕ) → suc i < length m → x ≡ (entry k bs (get_or m i 0)).line → y ≡ (entry k bs (get_or m i 0)).column
      → take (suc (suc i)) (set (set m i x) (suc i) y) ++ spots k bs (drop (suc (suc i)) (set (set m i x) (suc i) y))
      ≡ take i m ++ spots k bs (drop i m)
  unfolding spots
  spots-step [] i x y h e f = absurd (omega arith)
  spots-step (p ∷ []) zero x y h e f = absurd (omega arith)
  spots-step (p ∷ q ∷ m) zero x y h e f = λ i. e i ∷ f i ∷ spots k bs m
  spots-step (p ∷ m) (suc i) x y h e f = ap (λ (l : List ℕ). p ∷ l) (spots-step m i x y (omega arith) e f)

  pub spots-short : (m : List ℕ) → length m ≤ 1 → spots k bs m ≡ m
  unfolding spots
  spots-short [] h = refl
  spots-short (p ∷ []) h = refl
  spots-short (p ∷ q ∷ m) h = absurd (omega arith)

  pub spots-more : (m : List ℕ) (i x y : ℕ) → i + 1 < length m → x ≡ (entry k bs (get_or m i 0)).line → y ≡ (entry k bs (get_or m i 0)).column
      → take (i + 2) (set (set m i x) (i + 1) y) ++ spots k bs (drop (i + 2) (set (set m i x) (i + 1) y)) ≡ take i m ++ spots k bs (drop i m)
  spots-more m i x y h e f =
      let two : i + 2 ≡ suc (suc i) = omega arith in
      rw (two, add-one i) (spots-step m i x y (omega arith) e f)
