-- Request E3 follows from the definition of the call with a map: lines and columns in the document's words, and the masking rule for two calls.
use mathlib.Core.Path.{◌≡◌, refl, sym, ap, ◌∙◌}
use mathlib.Core.Bool.{true, cond}
use mathlib.Core.List.{List, [], ◌∷◌, ◌++◌}
use Prim.Native.Nat.{ℕ, zero, suc, ◌+◌, ◌*◌, ◌≤◌, ◌<◌, min}
use native.Mathlib.Omega.{arith}
use lib.ListN.{length, get_or, take, drop, length-map, get_or-map}
use lib.Seq.{drop_at}
use lib.Dec.{eqb, leb}
use borrow.Author.Tests.{eq-eqb, le-leb, lt-leb}
use Rattle.std.proofs.lemmas.Bool.Decides.{nat_tests}
use Rattle.std.proofs.lemmas.List.{get_or_past}
use Rattle.context.specs.Cells.{Text, Cell, bytes_of, count}
use Rattle.context.specs.Context.{new_state}
use Rattle.tape.specs.declared.Fault.{Fault}
use Rattle.tape.specs.Faults.{number}
use Rattle.tape.specs.Tree.{Tree, tokens}
use Rattle.tape.specs.Tape.{refused, got}
use Rattle.tape.specs.Call.{read_call}
use Rattle.layout.specs.declared.Answer.{Answer}
use Rattle.layout.specs.Layout.{written, original, pieces_of, format}
use Rattle.layout.specs.Outcome.{answer, config_of, outcome}
use Rattle.layout.specs.Lines.{Spot, first_spot, spot_after, spot_at}
use Rattle.layout.specs.TokenMap.{no_spot, entry, token_map}
use Rattle.layout.specs.Masking.{MaskedPairForLayout, SameLines}
use Rattle.layout.specs.MapCall.{flat, numbers, Mapped, map_fitted, mapped, map_cells_after}
use Rattle.layout.proofs.AsciiPairs.{ascii-pair}
use Rattle.layout.proofs.TwoCalls.{pair-for_layout}
use Rattle.layout.proofs.TokenMaps.{places_count, map-count}
use Rattle.layout.proofs.MapCalls.{map-cells_after}
use Rattle.layout.proofs.Running.{kept, finish-none, finish-length}
use Rattle.two_calls.specs.Both.{MapsBoth}
use Rattle.acceptance.specs.Demands.{formatted}
use Rattle.acceptance.specs.Requests.{last_line, two_per_token, first_bytes, Placed, TokenPlaces, MapsAlikeWhere, MapsMasked}
use Rattle.acceptance.proofs.Demands.{was_refused, was_laid, as_long, AlikeAt, alike_at}
use Rattle.acceptance.proofs.FirstBytes.{first_byte, written-place, empty-none, copied_none}

-- ── lines and columns

-- the line is one more for each newline
line_after : (bs : List ℕ) (p : Spot) → (spot_after bs p).line ≡ p.line + count 10 bs
unfolding spot_after
line_after [] p = omega arith
line_after (b ∷ bs) p = grind (arith, nat_tests, line_after bs)

-- without a newline all is the last line
last_whole : (bs : List ℕ) → count 10 bs ≡ 0 → last_line bs ≡ bs
last_whole [] h = refl
last_whole (b ∷ bs) h = rw (eq-eqb (count 10 (b ∷ bs)) 0 h)

-- the column goes on from p, or is one more than the length of the last line
column-after : (bs : List ℕ) (p : Spot) → (spot_after bs p).column ≡ cond (eqb (count 10 bs) 0) (p.column + length bs) (suc (length (last_line bs)))
unfolding spot_after
column-after [] p = omega arith
column-after (b ∷ bs) p = grind (arith, nat_tests, column-after bs, last_whole bs)

column-from_1 : (bs : List ℕ) → (spot_after bs first_spot).column ≡ 1 + length (last_line bs)
column-from_1 bs = grind (arith, nat_tests, column-after bs first_spot, last_whole bs)

-- ── two numbers for each spot

flat-at : (ps : List Spot) (rest : List ℕ) (i : ℕ) → i < length ps
    → (get_or (flat ps ++ rest) (2 * i) 0 ≡ (get_or ps i no_spot).line) × (get_or (flat ps ++ rest) (2 * i + 1) 0 ≡ (get_or ps i no_spot).column)
flat-at [] rest i h = absurd (omega arith)
flat-at (p ∷ ps) rest zero h = (refl, refl)
flat-at (p ∷ ps) rest (suc i) h =
    let e : 2 * suc i ≡ suc (suc (2 * i)) = omega arith in
    let f : 2 * suc i + 1 ≡ suc (suc (2 * i + 1)) = omega arith in
    let k = flat-at ps rest i (omega arith) in
    (rw e k.0, rw f k.1)

-- ── one call

module _ (width case : ℕ) (text : Text) (t : Tree) where
  abbrev spots : List Spot
  spots = token_map original (config_of width case) text t

  abbrev out : List ℕ
  out = formatted width case text t

  -- what trimming leaves of all that was written
  abbrev left : ℕ
  left = kept (written (pieces_of original (config_of width case) text t))

  -- a newline follows what trimming leaves, if it leaves a byte
  out-length : length out ≡ left + min 1 left
  unfolding format
  out-length =
      let X = written (pieces_of original (config_of width case) text t) in
      as_long width case text t ∙ grind (arith, finish-length X, finish-none X)

  spots-count : length spots ≡ length (tokens t.kids)
  unfolding token_map
  spots-count = length-map (first_bytes width case text t) _ ∙ places_count (config_of width case) text original.pick t (new_state, 0)

  spot_at_lem : (i : ℕ) → get_or spots i no_spot ≡ entry left out (get_or (first_bytes width case text t) i 0)
  unfolding token_map
  spot_at_lem i = get_or-map (entry left out) (first_bytes width case text t) i 0

  is-spot : (i n : ℕ) → get_or (first_bytes width case text t) i 0 ≡ suc n → suc n < length out → get_or spots i no_spot ≡ spot_at out n
  is-spot i n e h = spot_at_lem i ∙ rw e (grind (arith, nat_tests, out-length))

  no_spot_lem : (i : ℕ) → get_or (first_bytes width case text t) i 0 ≡ 0 → get_or spots i no_spot ≡ no_spot
  no_spot_lem i e = spot_at_lem i ∙ rw e

  trimmed-spot : (i : ℕ) → length out ≤ get_or (first_bytes width case text t) i 0 → get_or spots i no_spot ≡ no_spot
  trimmed-spot i h = spot_at_lem i ∙ grind (arith, nat_tests, out-length)

module _ (width case : ℕ) (text : Text) (tape before map_before : List ℕ) (r : Answer) (after map_after : List ℕ) (l : ◌≡◌ {A = Mapped} (record { answer = r; space = after; map = map_after }) (mapped width case text tape before map_before)) where
  abbrev call : Mapped
  call = record { answer = r; space = after; map = map_after }

  call_refused : (f : Fault) (p : ℕ) → read_call width case text tape ≡ refused f p → call ≡ record { answer = answer (number f) p; space = before; map = map_before }
  unfolding mapped
  call_refused f p e = l ∙ rw (was_refused width case text tape f p e)

  module _ (t : Tree) (p : ℕ) (e : read_call width case text tape ≡ got t p) where
    abbrev cells : List Cell
    cells = format original (config_of width case) text t

    abbrev ns : List ℕ
    ns = flat (spots width case text t)

    call_laid : call ≡ map_fitted (leb (length cells) (length before)) (leb (length ns) (length map_before)) cells ns before map_before
    unfolding mapped numbers
    call_laid = l ∙ rw (was_laid width case text tape t p e, e)

    count-numbers : length ns ≡ two_per_token t
    count-numbers = map-count original (config_of width case) text t

    call_13 : length before < length (formatted width case text t) → call ≡ record { answer = answer 13 (length (formatted width case text t)); space = before; map = map_before }
    call_13 h = call_laid ∙ rw (lt-leb (length cells) (length before) (omega (arith, as_long width case text t)), as_long width case text t)

    module _ (room : length (formatted width case text t) ≤ length before) where
      suffices : leb (length cells) (length before) ≡ true
      suffices = le-leb (length cells) (length before) (omega (arith, as_long width case text t))

      call_17 : length map_before < two_per_token t → call ≡ record { answer = answer 17 (two_per_token t); space = before; map = map_before }
      call_17 h = call_laid ∙ rw (suffices, lt-leb (length ns) (length map_before) (omega (arith, count-numbers)), count-numbers)

      call_0 : two_per_token t ≤ length map_before → call ≡ map_fitted true true cells ns before map_before
      call_0 h = call_laid ∙ rw (suffices, le-leb (length ns) (length map_before) (omega (arith, count-numbers)))

      module _ (map_room : two_per_token t ≤ length map_before) where
        -- the two numbers of a token
        numbers_of_lem : (i : ℕ) (p : Spot) → i < length (tokens t.kids) → get_or (spots width case text t) i no_spot ≡ p
            → (get_or map_after (2 * i) 0 ≡ p.line) × (get_or map_after (2 * i + 1) 0 ≡ p.column)
        numbers_of_lem i p h q =
            let k = flat-at (spots width case text t) (drop (length ns) map_before) i (omega (arith, spots-count width case text t)) in
            rw (ap (λ (z : Mapped). z.map) (call_0 map_room), ← q) k

        -- a token that has a place is one of the tape's
        has_place_lem : (i n : ℕ) → get_or (first_bytes width case text t) i 0 ≡ suc n → i < length (tokens t.kids)
        has_place_lem i n q =
            grind (arith, q, places_count (config_of width case) text original.pick t (new_state, 0), get_or_past (first_bytes width case text t) i 0)

        placed : Placed width case text tape before map_before r after map_after t
        placed =
            record {
              answers = rw (as_long width case text t) (ap (λ (z : Mapped). z.answer) (call_0 map_room));
              output = rw (as_long width case text t) (ap (λ (z : Mapped). z.space) (call_0 map_room));
              places =
                  λ i n q h.
                  let bs = take n (formatted width case text t) in
                  let x = numbers_of_lem i (spot_at (formatted width case text t) n) (has_place_lem i n q) (is-spot width case text t i n q h) in
                  (x.0 ∙ line_after bs first_spot, x.1 ∙ column-from_1 bs);
              first = first_byte width case text tape t p e;
              has_place = written-place width case text tape t p e;
              no_place = λ i h q. numbers_of_lem i no_spot h (no_spot_lem width case text t i q);
              below_copy = λ i h q. numbers_of_lem i no_spot h (no_spot_lem width case text t i (copied_none width case text tape t p e i q));
              empty_text = λ i h q. numbers_of_lem i no_spot h (no_spot_lem width case text t i (empty-none width case text tape t p e i q));
              trimmed = λ i h q. numbers_of_lem i no_spot h (trimmed-spot width case text t i q);
              past =
                  rw (ap (λ (z : Mapped). z.map) (call_0 map_room), ← count-numbers) (drop_at ns (drop (length ns) map_before) (length ns) refl);
            }

  pub token_places : TokenPlaces width case text tape before map_before r after map_after
  token_places =
      record {
        refuses = λ f p e. parts (call_refused f p e);
        too_short = λ t p e h. parts (call_13 t p e h);
        map_too_short = λ t p e h k. parts (call_17 t p e h k);
        fits = λ t p e h k. placed t p e h k;
      }
    where
      parts : {x : Answer} → call ≡ record { answer = x; space = before; map = map_before } → (r ≡ x) × (after ≡ before) × (map_after ≡ map_before)
      parts e = (ap (λ (z : Mapped). z.answer) e, ap (λ (z : Mapped). z.space) e, ap (λ (z : Mapped). z.map) e)

-- ── two calls

module _ (width case : ℕ) (a b : Text) (tape before_a before_b map_before_a map_before_b : List ℕ) (r : Answer × Answer) (after_a after_b map_after_a map_after_b : List ℕ) (both : MapsBoth a b tape width case before_a before_b map_before_a map_before_b r after_a after_b map_after_a map_after_b) where
  abbrev cells_a : List ℕ → List ℕ → List Cell
  cells_a space map = map_cells_after (outcome original width case a tape) (numbers width case a tape) space map

  abbrev cells_b : List ℕ → List ℕ → List Cell
  cells_b space map = map_cells_after (outcome original width case b tape) (numbers width case b tape) space map

  space-a : after_a ≡ bytes_of (cells_a before_a map_before_a)
  unfolding mapped
  space-a = ap (λ (z : Mapped). z.space) both.first ∙ sym (map-cells_after (outcome original width case a tape) (numbers width case a tape) before_a map_before_a)

  space-b : after_b ≡ bytes_of (cells_b before_b map_before_b)
  unfolding mapped
  space-b = ap (λ (z : Mapped). z.space) both.second ∙ sym (map-cells_after (outcome original width case b tape) (numbers width case b tape) before_b map_before_b)

  -- whatever gives the newlines
  module _ {Allowed : Type 0} (weaken : Allowed → MaskedPairForLayout width case a b tape) (by_lines : Allowed → before_a ≡ before_b → map_before_a ≡ map_before_b → SameLines after_a after_b × (map_after_a ≡ map_after_b)) where
    each-alike : Allowed → before_a ≡ before_b → map_before_a ≡ map_before_b → (i : ℕ)
        → AlikeAt a b (cells_a before_a map_before_a) (cells_b before_b map_before_b) after_a after_b i
    each-alike k e m =
        alike_at a b (cells_a before_a map_before_a) (cells_b before_b map_before_b) after_a after_b space-a space-b
        (rw (← e, ← m) (both.masked (weaken k) e m).1.alike)

    maps-alike_where : MapsAlikeWhere width case a b tape before_a before_b map_before_a map_before_b r after_a after_b map_after_a map_after_b Allowed
    maps-alike_where =
        record {
          answers = λ k e m. (both.masked (weaken k) e m).0;
          same_place = λ k e m i. (each-alike k e m i).0;
          alike = λ k e m i. (each-alike k e m i).1;
          lines = λ k e m. (by_lines k e m).0;
          maps = λ k e m. (by_lines k e m).1;
        }

  pub maps-masked : MapsMasked width case a b tape before_a before_b map_before_a map_before_b r after_a after_b map_after_a map_after_b
  maps-masked =
      record {
        call_a = token_places width case a tape before_a map_before_a r.0 after_a map_after_a both.first;
        call_b = token_places width case b tape before_b map_before_b r.1 after_b map_after_b both.second;
        alike = maps-alike_where (pair-for_layout width case a b tape) both.by_lines;
        ascii = maps-alike_where (λ k. pair-for_layout width case a b tape (ascii-pair width case a b tape k)) (λ k. both.by_lines (ascii-pair width case a b tape k));
        stronger = maps-alike_where (λ k. k.0) (λ k e m. let x = both.masked k.0 e m in (x.1.lines k.1, x.2 k.1));
      }
