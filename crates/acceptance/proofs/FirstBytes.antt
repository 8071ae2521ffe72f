-- Where `places_from` says that a token's first byte stands, it does stand in the layout; a token with empty text or below a node copied as typed has no place.
use mathlib.Core.Path.{◌≡◌, refl, sym, ap, subst, ◌∙◌}
use mathlib.Core.Bool.{Bool, true, false, cond, false≢true}
use mathlib.Core.List.Memᴰ
use mathlib.Core.List.{List, [], ◌∷◌, ◌++◌, map, append_assoc, append-nil, Memᴰ}
use mathlib.Core.Logic.{◌⊎◌, inl, inr, ⊎_elim}
use Prim.Native.Nat.{ℕ, zero, suc, ◌+◌, ◌-◌, ◌≤◌, ◌<◌}
use native.Mathlib.Omega.{arith}
use lib.ListN.{length, get_or, take, drop, replicate, length-append, length-take, length-map, get_or-append}
use lib.Seq.{drop-cons, get_or_at, get_or-take}
use lib.Dec.{eqb, leb}
use borrow.Author.Tests.{eqb-false, ne_eqb}
use Rattle.std.specs.List.{AllZip}
use Rattle.std.proofs.lemmas.Bool.{cond_both}
use Rattle.std.proofs.lemmas.List.{get_or-append-add}
use Rattle.context.specs.Cells.{Text, Cell, from, fresh, copied_from, span_cells, cell_in_case, token_text}
use Rattle.context.specs.Context.{new_state, write_token, write_keyword, end_line, trim_end, finish}
use Rattle.context.specs.declared.FormatConfig.{FormatConfig}
use Rattle.context.specs.declared.State.{State}
use Rattle.tape.specs.declared.Head.{Head}
use Rattle.tape.specs.Tree.{Children, done, token, node, Tree, tokens, count_list_items, copied}
use Rattle.tape.specs.Tape.{got, verdict}
use Rattle.tape.specs.Call.{read_call}
use Rattle.tape.proofs.Trees.{tokens-fit}
use Rattle.tape.proofs.Acceptance.{accepted-call}
use Rattle.layout.specs.declared.Local.{Local}
use Rattle.layout.specs.Arms.{Spacing, Act, spacing, write_text, write_sign, seen, Arms}
use Rattle.layout.specs.Arms as arms
use Rattle.layout.specs.Calls.{Call, put_spacing, act_at, raw, format_error_verbatim, walk, calls}
use Rattle.layout.specs.Layout.{step, pieces, written, original, pieces_of, format}
use Rattle.layout.specs.TokenMap.{Seat, writes, seat_after, written_at, place_of, no_places, places, places_from}
use Rattle.layout.specs.Outcome.{config_of}
use Rattle.layout.proofs.MaskedLayouts.{TokenSpans}
use Rattle.layout.proofs.TwoCalls.{got_same}
use Rattle.layout.proofs.TokenMaps.{places_count}
use Rattle.layout.proofs.Running.{kept}
use Rattle.acceptance.specs.Demands.{formatted}
use Rattle.acceptance.specs.Requests.{first_bytes, FirstByte, of_text, of_sign, token_at, below_copied, below_copied_of}
use Rattle.acceptance.proofs.Demands.{as_long}

-- ── a fact of each token and its place

module _ {A : Type 0} (P : A → ℕ → Type 0) where
  along_append : (xs ys : List A) (ps qs : List ℕ) → AllZip P xs ps → AllZip P ys qs → AllZip P (xs ++ ys) (ps ++ qs)
  along_append [] ys [] qs u v = v
  along_append [] ys (p ∷ ps) qs u v = absurd u
  along_append (x ∷ xs) ys [] qs u v = absurd u
  along_append (x ∷ xs) ys (p ∷ ps) qs u v = (u.0, along_append xs ys ps qs u.1 v)

  along_none : ((x : A) → P x 0) → (xs : List A) → AllZip P xs (replicate (length xs) 0)
  along_none z [] = tt
  along_none z (x ∷ xs) = (z x, along_none z xs)

  along_at : (xs : List A) (ps : List ℕ) → AllZip P xs ps → (d : A) → P d 0 → (i : ℕ) → P (get_or xs i d) (get_or ps i 0)
  along_at [] [] u d z i = z
  along_at [] (p ∷ ps) u d z i = absurd u
  along_at (x ∷ xs) [] u d z i = absurd u
  along_at (x ∷ xs) (p ∷ ps) u d z zero = u.0
  along_at (x ∷ xs) (p ∷ ps) u d z (suc i) = along_at xs ps u.1 d z i

-- no place
abbrev NoneWhere : Bool → ℕ → Type 0
NoneWhere b p = b ≡ true → p ≡ 0

-- what `token_at` answers past the last token
abbrev no_head : Head
no_head = record { kind = 0; start = 0; end = 0; at = 0 }

-- ── what calls write, and where

module _ (config : FormatConfig) (text : Text) where
  abbrev all_of : List Call → State → List Cell
  all_of cs s = written (pieces config text cs s)

  written-append : (xs ys : List Call) (w : Seat) → all_of (xs ++ ys) w.0 ≡ all_of xs w.0 ++ all_of ys (seat_after config text xs w).0
  unfolding pieces written seat_after
  written-append [] ys w = refl
  written-append (c ∷ xs) ys w =
      let r = step config text c w.0 in
      rw (written-append xs ys (r.0, w.1 + length (r.1.lead ++ r.1.body))) (simp append_assoc)

  seat-length : (cs : List Call) (w : Seat) → (seat_after config text cs w).1 ≡ w.1 + length (all_of cs w.0)
  unfolding pieces written seat_after
  seat-length [] w = omega arith
  seat-length (c ∷ cs) w =
      let r = step config text c w.0 in
      seat-length cs (r.0, w.1 + length (r.1.lead ++ r.1.body))
      ∙ simp length-append (omega arith)

  module _ (whole : List Cell) where
    -- what the calls write from the seat on is a part of the whole, at the place that the seat counts
    record Writes (cs : List Call) (w : Seat) : Type 0 where
      front : List Cell
      back : List Cell
      long : length front ≡ w.1
      parts : whole ≡ front ++ (all_of cs w.0 ++ back)

    later : (xs ys : List Call) (w : Seat) → Writes (xs ++ ys) w → Writes ys (seat_after config text xs w)
    later xs ys w k =
        record {
          front = k.front ++ all_of xs w.0;
          back = k.back;
          long = length-append k.front (all_of xs w.0) ∙ omega (arith, k.long, seat-length xs w);
          parts = k.parts ∙ rw (written-append xs ys w) (simp append_assoc);
        }

    sooner : (xs ys : List Call) (w : Seat) → Writes (xs ++ ys) w → Writes xs w
    sooner xs ys w k =
        record {
          front = k.front;
          back = all_of ys (seat_after config text xs w).0 ++ k.back;
          long = k.long;
          parts = k.parts ∙ rw (written-append xs ys w) (simp append_assoc);
        }

    -- ── one token

    -- the first cell of the body that a call writes, at the place counted from 1
    body-first : (c : Call) (w : Seat) (x : Cell) (xs : List Cell) → Writes (c ∷ []) w → (step config text c w.0).1.body ≡ x ∷ xs
        → (n : ℕ) → suc (w.1 + length (step config text c w.0).1.lead) ≡ suc n → get_or whole n (fresh 0) ≡ x
    unfolding pieces written
    body-first c w x xs k e n m =
        let lead = (step config text c w.0).1.lead in
        let same : whole ≡ (k.front ++ lead) ++ (x ∷ (xs ++ k.back)) = k.parts ∙ rw e (simp (append_assoc, append-nil)) in
        rw same (get_or_at (k.front ++ lead) x (xs ++ k.back) (fresh 0) n (length-append k.front lead ∙ omega (arith, k.long)))

    module _ (h : Head) (some : h.start < h.end) (fits : h.end ≤ length text) where
      span-first : span_cells text h.start h.end ≡ record { byte = get_or text h.start 0; origin = from h.start } ∷ copied_from (suc h.start) (take (h.end - suc h.start) (drop (suc h.start) text))
      unfolding token_text
      span-first =
          let n : h.end - h.start ≡ suc (h.end - suc h.start) = omega arith in
          rw (n, drop-cons text h.start 0 (omega arith))

      -- what an act writes for the token
      act_first : (x : Act) (w : Seat) → Writes (act_at h x ∷ []) w → (n : ℕ) → cond (writes x) (suc (w.1 + length (step config text (act_at h x) w.0).1.lead)) 0 ≡ suc n
          → FirstByte h (get_or whole n (fresh 0))
      unfolding step write_token write_keyword
      act_first (spacing x) w k n e = absurd (omega arith)
      act_first write_text w k n e = of_text (ap (λ (z : Cell). z.origin) (body-first _ w _ _ k span-first n e))
      act_first arms.write_keyword w k n e =
          of_text (ap (λ (z : Cell). z.origin) (body-first _ w _ _ k (ap (map (cell_in_case config.uppercase_keywords)) span-first) n e))
      act_first (write_sign x) w k n e = of_sign x (body-first _ w _ _ k refl n e)

      acts_first : (xs : List Act) (w : Seat) → Writes (map (act_at h) xs) w → (n : ℕ) → written_at config text h xs w ≡ suc n → FirstByte h (get_or whole n (fresh 0))
      unfolding written_at seat_after
      acts_first [] w k n e = absurd (omega arith)
      acts_first (x ∷ xs) w k n e =
          let r = step config text (act_at h x) w.0 in
          let after : Seat = (r.0, w.1 + length (r.1.lead ++ r.1.body)) in
          let q = written_at config text h xs after in
          cond_both (eqb q 0) (cond (writes x) (suc (w.1 + length r.1.lead)) 0) q (λ z. z ≡ suc n → FirstByte h (get_or whole n (fresh 0)))
          (λ _. act_first x w (sooner (act_at h x ∷ []) (map (act_at h) xs) w k) n)
          (λ _. acts_first xs after (later (act_at h x ∷ []) (map (act_at h) xs) w k) n) e

    -- the byte at the place is the token's first; a token with empty text has no place
    abbrev Told : Head → ℕ → Type 0
    Told h p = ((n : ℕ) → p ≡ suc n → FirstByte h (get_or whole n (fresh 0))) × (h.start ≡ h.end → p ≡ 0)

    told_none : (h : Head) → Told h 0
    told_none h = (λ n e. absurd (omega arith), λ e. refl)

    token-told : (h : Head) → h.start ≤ h.end → h.end ≤ length text → (xs : List Act) (w : Seat) → Writes (map (act_at h) xs) w → Told h (place_of config text h xs w)
    token-told h s f xs w k =
        cond_both (eqb h.start h.end) 0 (written_at config text h xs w) (Told h) (λ _. told_none h)
        (λ e. (acts_first h (omega (arith, eqb-false h.start h.end e)) f xs w k, λ q. absurd (eqb-false h.start h.end e q)))

    -- ── all tokens

    -- below a node, copied or not
    below : (b : Bool) (kids : Children) (xs ys : List Call) (ps : List ℕ) (w : Seat) → Writes (cond b xs ys) w → (Writes ys w → AllZip Told (tokens kids) ps)
        → AllZip Told (tokens kids) (cond b (no_places config text kids) ps)
    below true kids xs ys ps w k f = along_none Told told_none (tokens kids)
    below false kids xs ys ps w k f = f k

    module _ (pick : ℕ → Children → Arms) where
      places-told : (c : Children) → TokenSpans (length text) c → (r : Arms) (l : Local) (w : Seat) → Writes (walk pick text r l c) w
          → AllZip Told (tokens c) (places config text pick r l c w)
      unfolding places tokens walk
      places-told done s r l w k = tt
      places-told (token h rest) s r l w k =
          let a = r.at_token l (seen text h) in
          let xs = map (act_at h) a.1 in (
            token-told h s.0.1 s.0.2 a.1 w (sooner xs (walk pick text r a.0 rest) w k),
            places-told rest s.1 r a.0 (seat_after config text xs w) (later xs (walk pick text r a.0 rest) w k),
          )
      places-told (node h kids rest) s r l w k =
          let a = r.at_node l h.kind (count_list_items kids) in
          let q = pick h.kind kids in
          let own = cond (copied h.kind kids) (format_error_verbatim h) (walk pick text q q.begin kids) in
          let tail = walk pick text r a.0 rest in
          let i = seat_after config text (map put_spacing a.1) w in
          let j = seat_after config text own i in
          let inside = later (map put_spacing a.1) (own ++ (map put_spacing a.2 ++ tail)) w k in
          let after = later own (map put_spacing a.2 ++ tail) i inside in
          along_append Told (tokens kids) (tokens rest) _ _
          (below (copied h.kind kids) kids _ _ _ i (sooner own (map put_spacing a.2 ++ tail) i inside) (λ z. places-told kids s.0 q q.begin i z))
          (places-told rest s.1 r a.0 (seat_after config text (map put_spacing a.2) j) (later (map put_spacing a.2) tail j after))

      from_told : (t : Tree) → TokenSpans (length text) t.kids → (w : Seat) → Writes (calls pick text t) w → AllZip Told (tokens t.kids) (places_from config text pick t w)
      unfolding places_from calls
      from_told t s w k =
          let q = pick t.head.kind t.kids in
          below (copied t.head.kind t.kids) t.kids _ _ _ w k (λ z. places-told t.kids s q q.begin w z)

  -- ── below a node copied as typed

  copy_none : (b : Bool) (kids : Children) (ps : List ℕ) → AllZip NoneWhere (below_copied kids) ps
      → AllZip NoneWhere (cond b (map (λ (x : Head). true) (tokens kids)) (below_copied kids)) (cond b (no_places config text kids) ps)
  copy_none true kids ps u = rw (← (length-map (tokens kids) (λ (x : Head). true))) (along_none NoneWhere (λ b e. refl) (map (λ (x : Head). true) (tokens kids)))
  copy_none false kids ps u = u

  module _ (pick : ℕ → Children → Arms) where
    places-none : (c : Children) (r : Arms) (l : Local) (w : Seat) → AllZip NoneWhere (below_copied c) (places config text pick r l c w)
    unfolding places below_copied
    places-none done r l w = tt
    places-none (token h rest) r l w = (λ e. absurd (false≢true e), places-none rest r _ _)
    places-none (node h kids rest) r l w =
        let a = r.at_node l h.kind (count_list_items kids) in
        let q = pick h.kind kids in
        let inside = seat_after config text (map put_spacing a.1) w in
        let after = seat_after config text (cond (copied h.kind kids) (format_error_verbatim h) (walk pick text q q.begin kids)) inside in
        let b = copied h.kind kids in
        let ps = places config text pick q q.begin kids inside in
        along_append NoneWhere (cond b (map (λ (x : Head). true) (tokens kids)) (below_copied kids)) (below_copied rest) (cond b (no_places config text kids) ps) _
        (copy_none b kids ps (places-none kids q q.begin inside))
        (places-none rest r a.0 (seat_after config text (map put_spacing a.2) after))

    from-none : (t : Tree) (w : Seat) → AllZip NoneWhere (below_copied_of t) (places_from config text pick t w)
    unfolding places_from
    from-none t w =
        let q = pick t.head.kind t.kids in
        copy_none (copied t.head.kind t.kids) t.kids _ (places-none t.kids q q.begin w)

  -- ── a token that is written has a place

  module _ (h : Head) (x : Act) (is_written : writes x ≡ true) (some : h.start ≡ h.end → ⊥) where
    -- among these tokens is h, with a place
    abbrev Has : List Head → List ℕ → Type 0
    Has hs ps = (i : ℕ) × (i < length hs) × (get_or hs i no_head ≡ h) × (0 < get_or ps i 0)

    has_left : (hs gs : List Head) (ps qs : List ℕ) → length hs ≡ length ps → Has hs ps → Has (hs ++ gs) (ps ++ qs)
    has_left hs gs ps qs e k =
        (k.0, omega (arith, length-append hs gs, k.1), rw (get_or-append hs gs no_head k.0 k.1) k.2, rw (get_or-append ps qs 0 k.0 (omega (arith, k.1))) k.3)

    has_right : (hs gs : List Head) (ps qs : List ℕ) → length hs ≡ length ps → Has gs qs → Has (hs ++ gs) (ps ++ qs)
    has_right hs gs ps qs e k =
        (length hs + k.0, omega (arith, length-append hs gs, k.1), rw (get_or-append-add hs gs k.0 no_head) k.2, rw (e, get_or-append-add ps qs k.0 0) k.3)

    no_spacing : (xs : List Spacing) → Memᴰ (act_at h x) (map put_spacing xs) → ⊥
    no_spacing xs m = let r = Memᴰ.of_map put_spacing xs m in cc (r.2)

    no_verbatim : (g : Head) → Memᴰ (act_at h x) (format_error_verbatim g) → ⊥
    unfolding format_error_verbatim
    no_verbatim g =
        cond_both (leb g.start g.end) (raw g.start g.end ∷ []) [] (λ z. Memᴰ (act_at h x) z → ⊥) (λ _ m. let e = Memᴰ.eq_of_singleton m in cc) (λ _. Memᴰ.not-nil)

    -- an act that writes leaves a place
    acts_place : (xs : List Act) (w : Seat) → Memᴰ x xs → 0 < written_at config text h xs w
    unfolding written_at
    acts_place [] w m = absurd (Memᴰ.not-nil m)
    acts_place (y ∷ ys) w m =
        let r = step config text (act_at h y) w.0 in
        let after : Seat = (r.0, w.1 + length (r.1.lead ++ r.1.body)) in
        go (Memᴰ.cases_cons m) (w.1 + length r.1.lead) (written_at config text h ys after) (λ k. acts_place ys after k)
      where
        go : (x ≡ y) ⊎ Memᴰ x ys → (n q : ℕ) → (Memᴰ x ys → 0 < q) → 0 < cond (eqb q 0) (cond (writes y) (suc n) 0) q
        go (inl e) n q f =
            rw (← e, is_written) (cond_both (eqb q 0) (suc n) q (λ z. 0 < z) (λ _. omega arith) (λ z. omega (arith, eqb-false q 0 z)))
        go (inr k) n q f = rw (ne_eqb q 0 (λ z. omega (arith, f k))) (f k)

    token-place : (g : Head) (xs : List Act) (w : Seat) → Memᴰ (act_at h x) (map (act_at g) xs) → (g ≡ h) × (0 < place_of config text g xs w)
    token-place g xs w m =
        let r = Memᴰ.of_map (act_at g) xs m in
        let same : g ≡ h = cc (r.2) in
        let is : x ≡ r.0 = cc (r.2) in
        (same, rw (same, ne_eqb h.start h.end some) (acts_place xs w (Memᴰ.cast is r.1)))

    -- a call of a node: of what stands before, inside, after, or of the rest
    node-has : (kids rest : Children) (xs own ys tail : List Call) (ps qs : List ℕ) → length (tokens kids) ≡ length ps
        → (Memᴰ (act_at h x) xs → ⊥) → (Memᴰ (act_at h x) ys → ⊥)
        → (Memᴰ (act_at h x) own → Has (tokens kids) ps) → (Memᴰ (act_at h x) tail → Has (tokens rest) qs)
        → Memᴰ (act_at h x) (xs ++ (own ++ (ys ++ tail))) → Has (tokens kids ++ tokens rest) (ps ++ qs)
    node-has kids rest xs own ys tail ps qs e f g u v m =
        ⊎_elim (λ k. absurd (f k))
        (λ i. ⊎_elim (λ k. has_left (tokens kids) (tokens rest) ps qs e (u k))
        (λ j. ⊎_elim (λ k. absurd (g k)) (λ k. has_right (tokens kids) (tokens rest) ps qs e (v k)) (Memᴰ.append_cases ys j))
        (Memᴰ.append_cases own i))
        (Memᴰ.append_cases xs m)

    module _ (pick : ℕ → Children → Arms) where
      inside-has : (b : Bool) (g : Head) (kids : Children) (xs : List Call) (ps : List ℕ) → Memᴰ (act_at h x) (cond b (format_error_verbatim g) xs)
          → (Memᴰ (act_at h x) xs → Has (tokens kids) ps) → Has (tokens kids) (cond b (no_places config text kids) ps)
      inside-has true g kids xs ps m f = absurd (no_verbatim g m)
      inside-has false g kids xs ps m f = f m

      places-has : (c : Children) (r : Arms) (l : Local) (w : Seat) → Memᴰ (act_at h x) (walk pick text r l c) → Has (tokens c) (places config text pick r l c w)
      unfolding places places_from tokens walk
      places-has done r l w m = absurd (no_spacing (r.at_end l) m)
      places-has (token g rest) r l w m =
          let a = r.at_token l (seen text g) in
          ⊎_elim (λ k. let s = token-place g a.1 w k in (0, omega arith, s.0, s.1))
          (λ k. let s = places-has rest r a.0 (seat_after config text (map (act_at g) a.1) w) k in (suc s.0, omega (arith, s.1), s.2, s.3))
          (Memᴰ.append_cases (map (act_at g) a.1) m)
      places-has (node g kids rest) r l w m =
          let a = r.at_node l g.kind (count_list_items kids) in
          let q = pick g.kind kids in
          let b = copied g.kind kids in
          let own = cond b (format_error_verbatim g) (walk pick text q q.begin kids) in
          let i = seat_after config text (map put_spacing a.1) w in
          let ps = places config text pick q q.begin kids i in
          let j = seat_after config text (map put_spacing a.2) (seat_after config text own i) in
          node-has kids rest (map put_spacing a.1) own (map put_spacing a.2) (walk pick text r a.0 rest) _ _
          (sym (places_count config text pick (record { head = g; kids = kids }) i))
          (no_spacing a.1) (no_spacing a.2)
          (λ k. inside-has b g kids (walk pick text q q.begin kids) ps k (λ z. places-has kids q q.begin i z))
          (λ k. places-has rest r a.0 j k) m

      from-has : (t : Tree) (w : Seat) → Memᴰ (act_at h x) (calls pick text t) → Has (tokens t.kids) (places_from config text pick t w)
      unfolding places_from calls
      from-has t w m =
          let q = pick t.head.kind t.kids in
          inside-has (copied t.head.kind t.kids) t.head t.kids _ _ m (λ k. places-has t.kids q q.begin w k)

-- ── in the layout

end-at : (Y : List Cell) (n : ℕ) → suc n < length (end_line Y) → (n < length Y) × (get_or (end_line Y) n (fresh 0) ≡ get_or Y n (fresh 0))
end-at [] n h = absurd (omega arith)
end-at (y ∷ Y) n h =
    let i : n < length (y ∷ Y) = omega (arith, length-append (y ∷ Y) (fresh 10 ∷ [])) in (i, get_or-append (y ∷ Y) (fresh 10 ∷ []) (fresh 0) n i)

-- a byte before the last newline is the one that was written
finish-at : (X : List Cell) (n : ℕ) → suc n < length (finish X) → get_or (finish X) n (fresh 0) ≡ get_or X n (fresh 0)
unfolding finish trim_end
finish-at X n h =
    let e = end-at (take (kept X) X) n h in
    e.1 ∙ get_or-take (kept X) X n (fresh 0) (omega (arith, length-take (kept X) X, e.0))

module _ (width case : ℕ) (text tape : List ℕ) (t : Tree) (p : ℕ) (e : read_call width case text tape ≡ got t p) where
  spans : TokenSpans (length text) t.kids
  spans =
      let k = accepted-call width case text tape (ap verdict e) in
      let u = k.accepted.tree in
      let same : u ≡ t = got_same (sym k.read ∙ e) in
      subst (λ (x : Tree). TokenSpans (length text) x.kids) same (tokens-fit (length text) tape 11 u.kids k.accepted.kids)

  abbrev all : List Cell
  all = written (pieces_of original (config_of width case) text t)

  told : (i : ℕ) → Told (config_of width case) text all (token_at t i) (get_or (first_bytes width case text t) i 0)
  unfolding pieces_of original
  told =
      along_at (Told (config_of width case) text all) (tokens t.kids) (first_bytes width case text t)
      (from_told (config_of width case) text all original.pick t spans (new_state, 0) (record { front = []; back = []; long = refl; parts = sym (append-nil all) }))
      no_head (told_none (config_of width case) text all no_head)

  pub first_byte : (i n : ℕ) → get_or (first_bytes width case text t) i 0 ≡ suc n → suc n < length (formatted width case text t)
      → FirstByte (token_at t i) (get_or (format original (config_of width case) text t) n (fresh 0))
  unfolding format
  first_byte i n q k = rw (finish-at all n (omega (arith, as_long width case text t))) ((told i).0 n q)

  -- a call of the list
  called : (cs : List Call) (j : ℕ) (h : Head) (x : Act) → get_or cs j (raw 0 0) ≡ act_at h x → Memᴰ (act_at h x) cs
  called [] j h x q = absurd (cc)
  called (c ∷ cs) zero h x q = Memᴰ.head (sym q)
  called (c ∷ cs) (suc j) h x q = Memᴰ.tail (called cs j h x q)

  pub written-place : (j : ℕ) (h : Head) (x : Act) → get_or (calls original.pick text t) j (raw 0 0) ≡ act_at h x → writes x ≡ true → (h.start ≡ h.end → ⊥)
      → (i : ℕ) × (i < length (tokens t.kids)) × (token_at t i ≡ h) × (0 < get_or (first_bytes width case text t) i 0)
  written-place j h x q w s =
      from-has (config_of width case) text h x w s original.pick t (new_state, 0) (called (calls original.pick text t) j h x q)

  pub empty-none : (i : ℕ) → (token_at t i).start ≡ (token_at t i).end → get_or (first_bytes width case text t) i 0 ≡ 0
  empty-none i = (told i).1

  pub copied_none : (i : ℕ) → get_or (below_copied_of t) i false ≡ true → get_or (first_bytes width case text t) i 0 ≡ 0
  copied_none = along_at NoneWhere (below_copied_of t) (first_bytes width case text t) (from-none (config_of width case) text original.pick t (new_state, 0)) false (λ e. refl)
