-- The one entry that the index leads to is the only one that can be equal to a word.
use mathlib.Core.Path.{◌≡◌, refl, sym, ap, ◌∙◌, subst}
use mathlib.Core.Bool.{Bool, true, false, cond, ◌&&◌, false≢true}
use mathlib.Core.List.{List, [], ◌∷◌, map}
use Prim.Native.Nat.{ℕ, zero, suc, ◌+◌, ◌-◌, ◌/◌, ◌%◌, ◌≤◌, ◌<◌}
use native.Mathlib.Nat.{le_of_suc-le-suc, not-suc-le-zero}
use native.Mathlib.Omega.{arith}
use borrow.Author.Tests.{eq-eqb, le-leb}
use lib.Dec.{T, eqb, leb, eqb→eq, leb→le}
use lib.ListN.{length, get_or, length-map}
use Rattle.std.specs.Prelude.{Option, Some, None, option_and_then}
use Rattle.std.specs.Bool.{then_some}
use Rattle.std.specs.List.{range_with_len}
use Rattle.std.proofs.lemmas.Option.{none-some, option_and_then_some, same_Some}
use Rattle.std.proofs.lemmas.List.FromFn.{get_or-map-range_with_len}
use Rattle.basics.specs.Case.{to_uppercase}
use Rattle.basics.specs.Match.{match}
use Rattle.basics.proofs.Same.{both, same-equal}
use Rattle.keywords.specs.declared.index.Entry as code
use Rattle.keywords.specs.declared.index.TheConstants.{ENTRIES}
use Rattle.keywords.specs.Names.{names}
use Rattle.keywords.specs.Words.{capitals, words, same, place_of}
use Rattle.keywords.specs.Table.{capital, entry, entries, words-rule}
use Rattle.keywords.specs.Index.{letter_at, key, index, entry_of, candidate, offset, Stands}
use Rattle.keywords.proofs.Capitals.{capitals-at}
use Rattle.keywords.proofs.Places.{Entry, placed_entry, entry-placed, same_self}

-- ── the array

-- it has the entry of each key: one computed test
entries-indexed : ENTRIES ≡ map entry_of (range_with_len 0 256)
unfolding names words key index entry_of
entries-indexed = refl

entry-at : (k : ℕ) (d : Option code.Entry) → k < 256 → get_or ENTRIES k d ≡ entry_of k
entry-at k d h = ap (λ (t : List (Option code.Entry)). get_or t k d) entries-indexed ∙ get_or-map-range_with_len entry_of 0 256 k k d h (omega arith)

-- ── what the index leads to is an entry of the list

-- an entry of the index is that of a place from i on
record From (i n : ℕ) (es : List (List ℕ)) (r : code.Entry) : Type 0 where
  further : ℕ
  inside : further < length es
  place : r.place ≡ i + further
  begins : r.at ≡ n + offset further es

found_from : (k i n : ℕ) (es : List (List ℕ)) (r : code.Entry) → match k (index i n es) None ≡ Some r → From i n es r
unfolding index offset
found_from k i n [] r h = absurd (none-some r h)
found_from k i n (e ∷ es) r h = go (eqb k (key e)) (found_from k (suc i) (n + suc (length e)) es r) h
  where
    go : (b : Bool) → (match k (index (suc i) (n + suc (length e)) es) None ≡ Some r → From (suc i) (n + suc (length e)) es r)
        → cond b (Some (record { place = i; at = n; first = letter_at e 0 })) (match k (index (suc i) (n + suc (length e)) es) None) ≡ Some r → From i n (e ∷ es) r
    go true f u = rw (← same_Some _ _ u) (record { further = 0; inside = omega arith; place = omega arith; begins = omega arith })
    go false f u =
        let x = f u in
        record { further = suc x.further; inside = omega (arith, x.inside); place = omega (arith, x.place); begins = omega (arith, x.begins) }

stands : (k : ℕ) (r : code.Entry) → entry_of k ≡ Some r → Stands r
unfolding entry_of
stands k r h =
    let x = found_from k 0 0 words r h in
    let p : r.place ≡ x.further = omega (arith, x.place) in
    record { inside = omega (arith, p, x.inside); begins = rw p (omega (arith, x.begins)) }

-- so is a word's candidate
pub candidate-stands : (w : List ℕ) (r : code.Entry) → candidate w ≡ Some r → Stands r
candidate-stands w r h = go (leb 2 (length w) && leb (length w) 12) h
  where
    first : code.Entry → Option code.Entry
    first e = then_some (eqb e.first (letter_at w 0)) e

    is_first : (b : Bool) (e : code.Entry) → then_some b e ≡ Some r → e ≡ r
    is_first true e u = same_Some e r u
    is_first false e u = absurd (none-some r u)

    go : (b : Bool) → cond b (option_and_then first (entry_of (key w))) None ≡ Some r → Stands r
    go true u = option_and_then_some first (entry_of (key w)) r u (λ e q v. stands (key w) r (q ∙ ap Some (is_first (eqb e.first (letter_at w 0)) e v)))
    go false u = absurd (none-some r u)

-- it is what stands in the array at the word's key, if that begins with the word's first letter
pub candidate-is : (w : List ℕ) (k : ℕ) (d o : Option code.Entry) → k ≡ key w → k < 256 → get_or ENTRIES k d ≡ o → 2 ≤ length w → length w ≤ 12
    → option_and_then (λ (e : code.Entry). then_some (eqb e.first (letter_at w 0)) e) o ≡ candidate w
candidate-is w k d o q h g l s =
    let r : entry_of (key w) ≡ o = ap (λ (j : ℕ). entry_of j) (sym q) ∙ sym (entry-at k d h) ∙ g in
    rw (le-leb 2 (length w) l, le-leb (length w) 12 s, r) refl

-- ── each entry is led to

-- the index leads to the entry at each place, so that none stands there twice, and the number of its first letter is not 0
abbrev led : ℕ → List ℕ → Option code.Entry → Bool
led i e None = false
led i e (Some r) = eqb r.place i && (eqb r.first (letter_at e 0) && leb 1 r.first)

leads : ℕ → List (List ℕ) → List (ℕ × Option code.Entry) → Bool
leads i [] t = true
leads i (e ∷ es) t = led i e (match (key e) t None) && leads (suc i) es t

-- of all entries: one computed test
words-lead : T (leads 0 words (index 0 0 words))
unfolding names words key index leads
words-lead = tt

record Known (w : List ℕ) (i : ℕ) (o : Option code.Entry) : Type 0 where
  long : 2 ≤ length w
  short : length w ≤ 12
  entry : code.Entry
  is : o ≡ Some entry
  place : entry.place ≡ i
  begins : entry.first ≡ letter_at w 0

known : (e : List ℕ) (i : ℕ) (o : Option code.Entry) → T (entry e) → T (led i e o) → Known e i o
known e i None t u = absurd u
known e i (Some r) t u =
    let l = both (leb 2 (length e)) (leb (length e) 12) (both (leb 2 (length e) && leb (length e) 12) (capital e) t).0 in
    let x = both (eqb r.place i) (eqb r.first (letter_at e 0) && leb 1 r.first) u in
    record {
      long = leb→le 2 (length e) l.0;
      short = leb→le (length e) 12 l.1;
      entry = r;
      is = refl;
      place = eqb→eq r.place i x.0;
      begins = eqb→eq r.first (letter_at e 0) (both (eqb r.first (letter_at e 0)) (leb 1 r.first) x.1).0;
    }

known_at : (i : ℕ) (es : List (List ℕ)) (t : List (ℕ × Option code.Entry)) (j : ℕ) → T (entries es) → T (leads i es t) → j < length es
    → Known (get_or es j []) (i + j) (match (key (get_or es j [])) t None)
unfolding leads
known_at i [] t j r k h = absurd (not-suc-le-zero h)
known_at i (e ∷ es) t zero r k h =
    let z : i ≡ i + 0 = omega arith in
    let m = match (key e) t None in
    subst (λ (n : ℕ). Known e n m) z (known e i m (both (entry e) (entries es) r).0 (both (led i e m) (leads (suc i) es t) k).0)
known_at i (e ∷ es) t (suc j) r k h =
    let u = (both (led i e (match (key e) t None)) (leads (suc i) es t) k).1 in
    let v = known_at (suc i) es t j (both (entry e) (entries es) r).1 u (le_of_suc-le-suc h) in
    let s : suc i + j ≡ i + suc j = omega arith in
    rw (← s) v

-- bytes that are an entry
entry_known : (w : List ℕ) (i : ℕ) → Entry w words i → Known w i (entry_of (key w))
unfolding entry_of
entry_known w i x =
    let z : 0 + i ≡ i = omega arith in
    let t = index 0 0 words in
    let r = known_at 0 words t i words-rule words-lead x.inside in
    subst (λ (v : List ℕ). Known v i (match (key v) t None)) x.is (subst (λ (n : ℕ). Known (get_or words i []) n (match (key (get_or words i [])) t None)) z r)

placed_known : (w : List ℕ) (i : ℕ) → place_of w words ≡ Some i → Known w i (entry_of (key w))
placed_known w i h = entry_known w i (placed_entry w words i h)

-- ── a word's candidate does not depend on the case of its letters

upper_letter : (b : ℕ) → to_uppercase b % 32 ≡ b % 32
unfolding to_uppercase
upper_letter b = go (leb 97 b) (leb b 122) refl
  where
    go : (t u : Bool) → leb 97 b ≡ t → cond (t && u) (b - 32) b % 32 ≡ b % 32
    go false u e = refl
    go true false e = refl
    go true true e = let h = leb→le 97 b (rw e tt) in omega arith

letter_capitals : (w : List ℕ) (i : ℕ) → i < length w → letter_at (capitals w) i ≡ letter_at w i
letter_capitals w i h = rw (capitals-at w i h) (upper_letter (get_or w i 0))

key-capitals : (w : List ℕ) → 2 ≤ length w → key (capitals w) ≡ key w
unfolding key
key-capitals w h =
    let l = length-map w to_uppercase in
    let h0 = letter_capitals w 0 (omega arith) in
    let h1 = letter_capitals w 1 (omega arith) in
    let h2 = letter_capitals w (length w / 2) (omega arith) in
    let h3 = letter_capitals w (length w - 1) (omega arith) in
    cc

capitals-known : (w : List ℕ) (i : ℕ) → place_of (capitals w) words ≡ Some i → Known w i (entry_of (key w))
capitals-known w i h =
    let k = placed_known (capitals w) i h in
    let l = length-map w to_uppercase in
    let long : 2 ≤ length w = omega (arith, l, k.long) in
    record {
      long = long;
      short = omega (arith, l, k.short);
      entry = k.entry;
      is = ap (λ (j : ℕ). entry_of j) (sym (key-capitals w long)) ∙ k.is;
      place = k.place;
      begins = k.begins ∙ letter_capitals w 0 (omega arith);
    }

-- ── the candidate

-- where there is one entry it is the candidate
record Led (w : List ℕ) (i : ℕ) : Type 0 where
  entry : code.Entry
  is : candidate w ≡ Some entry
  place : entry.place ≡ i

known_led : (w : List ℕ) (i : ℕ) → Known w i (entry_of (key w)) → Led w i
known_led w i k =
    record {
      entry = k.entry;
      is = rw (le-leb 2 (length w) k.long, le-leb (length w) 12 k.short, k.is, eq-eqb _ _ k.begins) refl;
      place = k.place;
    }

-- what is left of a place once none can be
none : (p : Option ℕ) → ((i : ℕ) → p ≡ Some i → ⊥) → p ≡ None
none (Some i) h = absurd (h i refl)
none None h = refl

module _ (w : List ℕ) where
  -- bytes that are an entry of the list have its place
  pub this_entry : (e : code.Entry) → Stands e → same w (get_or words e.place []) ≡ true → place_of w words ≡ Some e.place
  this_entry e s h =
      let x : Entry w words e.place = record { inside = s.inside; is = sym (same-equal w (get_or words e.place []) h) } in
      let y = entry-placed w words e.place x in
      let k = placed_known w y.place y.is in
      let l = entry_known w e.place x in
      let z = ap (λ (r : code.Entry). r.place) (same_Some _ _ (sym k.is ∙ l.is)) in
      y.is ∙ ap Some (sym k.place ∙ z ∙ l.place)

  -- bytes that are not their candidate have no place
  other_entry : (e : code.Entry) → candidate w ≡ Some e → same w (get_or words e.place []) ≡ false → place_of w words ≡ None
  other_entry e c h =
      none (place_of w words) (λ i p.
      let x = known_led w i (placed_known w i p) in
      let z = ap (λ (r : code.Entry). r.place) (same_Some _ _ (sym c ∙ x.is)) ∙ x.place in
      let y = ap (λ (j : ℕ). get_or words j []) z ∙ (placed_entry w words i p).is in
      false≢true (sym h ∙ ap (λ (v : List ℕ). same w v) y ∙ same_self w))

  -- so the candidate decides
  pub entry_or_none : (e : code.Entry) (b : Bool) → candidate w ≡ Some e → b ≡ same w (get_or words e.place []) → then_some b e.place ≡ place_of w words
  entry_or_none e true c h = sym (this_entry e (candidate-stands w e c) (sym h))
  entry_or_none e false c h = sym (other_entry e c (sym h))

  -- bytes or a word without a candidate have no place
  pub no_entry : candidate w ≡ None → place_of w words ≡ None
  no_entry h = none (place_of w words) (λ i e. none-some _ (sym h ∙ (known_led w i (placed_known w i e)).is))

  pub no_word : candidate w ≡ None → place_of (capitals w) words ≡ None
  no_word h = none (place_of (capitals w) words) (λ i e. none-some _ (sym h ∙ (known_led w i (capitals-known w i e)).is))
