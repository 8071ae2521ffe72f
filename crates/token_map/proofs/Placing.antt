-- What the code notes is the place that the definition has: from the position after the acts for a token to where its text began.
use Prim.Native.Nat.{ℕ, zero, suc, ◌+◌, ◌-◌, ◌*◌}
use native.Mathlib.Omega.{arith}
use native.Mathlib.Nat.{add-zero}
use mathlib.Core.Path.{◌≡◌, refl, sym, ap, ◌∙◌, subst}
use mathlib.Core.Bool.{Bool, true, false, cond, not, ◌&&◌, ◌||◌, false≢true}
use mathlib.Core.List.{List, [], ◌∷◌, ◌++◌, map}
use lib.ListN.{length, replicate, length-append, length-replicate, length-map}
use lib.Dec.{eqb, eqb-suc-zero}
use borrow.Author.Tests.{ne_eqb, eqb-true}
use Rattle.std.proofs.lemmas.Bool.{and_parts}
use Rattle.utf8.specs.Trimming.{trimmed_length, trimmed_after, is_white_byte}
use Rattle.utf8.proofs.Trimming.{trimmed-nothing, trimmed-one, trimmed-cons}
use Rattle.context.specs.Cells.{Text, Cell, bytes_of, fresh, span_cells, cell_in_case, to_case, token_text}
use Rattle.context.specs.Context.{Step, lead, write_newline, write_token, write_keyword, take_pending_newline, take_pending_blank_line}
use Rattle.context.specs.Store.{Store, advanced, appended, stored}
use Rattle.context.specs.declared.FormatConfig.{FormatConfig}
use Rattle.context.specs.declared.FormatterContext.{FormatterContext}
use Rattle.context.specs.declared.Position.{Position}
use Rattle.context.specs.declared.State.{State}
use Rattle.context.proofs.Bytes.{bytes-append, bytes-blanks, bytes-span, bytes-in_case, trimmed-in_case}
use Rattle.context.proofs.Trimming.{trimmed-lead}
use Rattle.tape.specs.Kinds
use Rattle.tape.specs.declared.Head.{Head}
use Rattle.layout.specs.declared.Local.{Local}
use Rattle.layout.specs.Arms.{Spacing, newline, space, indent, dedent, note, blank_line, blank_line_before_comment, line_or_space, Sign, comma, semicolon, colon, minus, opening_round_bracket, closing_round_bracket, opening_square_bracket, closing_square_bracket, opening_curly_brace, closing_curly_brace, sign_byte, Act, spacing, write_sign, is_read, Seen, seen, Arms}
use Rattle.layout.specs.Arms as arms
use Rattle.layout.specs.Tokens.{is_line_comment}
use Rattle.layout.specs.Calls.{Call, act_at}
use Rattle.std.proofs.lemmas.Bool.{cond_both}
use Rattle.std.proofs.lemmas.Bool.Decides.{nat_tests}
use Rattle.layout.specs.Layout.{newline_if, do_spacing, step}
use Rattle.layout.specs.Run.{run}
use Rattle.layout.specs.TokenMap.{Seat, later_of, seat_after, written_at, place_of}
use Rattle.token_map.specs.declared.Signs.{Signs}
use Rattle.token_map.specs.declared.Written.{Written}
use Rattle.token_map.specs.declared.Written.TheVariants as written
use Rattle.token_map.specs.Signs.{written_as, place_as, place_by}
use Rattle.token_map.specs.Signed.{is_quiet, only_spacing, sign_once, text_once, fits, is_line, Signed}

-- ── the seat of a store

abbrev seat_of : Store → Seat
seat_of w = (w.0.state, w.0.position.length)

seat-step : (r : Step) (w : Store) → ◌≡◌ {A = Seat} (seat_of (stored r w)) (r.0, w.0.position.length + length (r.1.lead ++ r.1.body))
unfolding appended advanced
seat-step r w = ap (λ (n : ℕ). (r.0, w.0.position.length + n)) (length-map (r.1.lead ++ r.1.body) (λ (c : Cell). c.byte))

-- what runs over a store moves its seat as the definition has it
pub seat-of_run : (config : FormatConfig) (text : Text) (cs : List Call) (w : Store)
    → ◌≡◌ {A = Seat} ((run config text cs w).0.state, (run config text cs w).0.position.length)
    (seat_after config text cs (w.0.state, w.0.position.length))
unfolding seat_after
seat-of_run config text [] w = refl
seat-of_run config text (c ∷ cs) w =
    let r = step config text c w.0.state in
    seat-of_run config text cs (stored r w) ∙ ap (seat_after config text cs) (seat-step r w)

-- ── spacings

abbrev White : Step → Type 0
White r = trimmed_length (bytes_of (r.1.lead ++ r.1.body)) ≡ 0

newline-white : (s : State) → White (write_newline s)
unfolding write_newline is_white_byte
newline-white s = trimmed-one 10

newline_if-white : (b : Bool) (s : State) → White (newline_if b s)
newline_if-white b s = cond_both b _ _ White (λ _. newline-white s) (λ _. trimmed-nothing)

spacing-white : (x : Spacing) (s : State) → White (do_spacing x s)
unfolding do_spacing
spacing-white newline s = newline-white s
spacing-white space s = trimmed-nothing
spacing-white indent s = trimmed-nothing
spacing-white dedent s = trimmed-nothing
spacing-white (note b) s = trimmed-nothing
spacing-white blank_line s = newline_if-white (take_pending_blank_line s).0 (take_pending_blank_line s).1
spacing-white blank_line_before_comment s =
    newline_if-white ((take_pending_blank_line s).0 && not (take_pending_blank_line s).1.at_line_start) (take_pending_blank_line s).1
spacing-white line_or_space s =
    let taken = take_pending_newline s in
    cond_both taken.0 (newline_if (not taken.1.at_line_start) taken.1) _ White (λ _. newline_if-white (not taken.1.at_line_start) taken.1) (λ _. trimmed-nothing)

-- ── a token with its lead

lead-blanks : (config : FormatConfig) (s : State) → bytes_of (lead config s) ≡ replicate (length (lead config s)) 32
unfolding lead
lead-blanks config s = go s.at_line_start s.needs_space
  where
    blanks : List Cell
    blanks = replicate (s.indent_level * config.indent_width) (fresh 32)

    go : (p q : Bool) → bytes_of (cond p blanks (cond q (fresh 32 ∷ []) [])) ≡ replicate (length (cond p blanks (cond q (fresh 32 ∷ []) []))) 32
    go true q = bytes-blanks (s.indent_level * config.indent_width) ∙ ap (λ n. replicate n 32) (sym (length-replicate (s.indent_level * config.indent_width) (fresh 32)))
    go false true = refl
    go false false = refl

module _ (config : FormatConfig) (cs : List Cell) (w : Store) where
  abbrev from : ℕ
  from = w.0.position.length + length (lead config w.0.state)

  wrote_length : (stored (write_token config cs w.0.state) w).0.position.length ≡ from + length (bytes_of cs)
  unfolding appended advanced write_token
  wrote_length =
      let l = lead config w.0.state in
      omega (arith, length-map (l ++ cs) (λ (c : Cell). c.byte), length-append l cs, length-map cs (λ (c : Cell). c.byte))

  wrote_trimmed : (stored (write_token config cs w.0.state) w).0.position.trimmed ≡ trimmed_after from w.0.position.trimmed (trimmed_length (bytes_of cs))
  unfolding appended advanced write_token
  wrote_trimmed =
      let p = w.0.position in
      let l = lead config w.0.state in
      ap (λ (bs : List ℕ). trimmed_after p.length p.trimmed (trimmed_length bs))
      (bytes-append l cs ∙ ap (λ (bs : List ℕ). bs ++ bytes_of cs) (lead-blanks config w.0.state))
      ∙ trimmed-lead (length l) (bytes_of cs) p.length p.trimmed

-- no fixed sign is white space
sign_black : (x : Sign) → trimmed_length (bytes_of (fresh (sign_byte x) ∷ [])) ≡ 1
unfolding is_white_byte
sign_black comma = trimmed-one 44
sign_black semicolon = trimmed-one 59
sign_black colon = trimmed-one 58
sign_black minus = trimmed-one 45
sign_black opening_round_bracket = trimmed-one 40
sign_black closing_round_bracket = trimmed-one 41
sign_black opening_square_bracket = trimmed-one 91
sign_black closing_square_bracket = trimmed-one 93
sign_black opening_curly_brace = trimmed-one 123
sign_black closing_curly_brace = trimmed-one 125

-- a text's place, from the position right after it
place-back : (t : List ℕ) (from k : ℕ) (p : Position) → p.length ≡ from + length t → p.trimmed ≡ trimmed_after from k (trimmed_length t)
    → place_as written.Text t p ≡ suc from
unfolding place_as
place-back t from k p e f = go (trimmed_length t) refl
  where
    go : (j : ℕ) → trimmed_length t ≡ j → place_as written.Text t p ≡ suc from
    go zero w = rw w (omega arith)
    go (suc m) w =
        let g : p.trimmed ≡ from + suc m = f ∙ ap (trimmed_after from k) w in
        rw (w, eqb-suc-zero m) (omega arith)

-- ── the acts for a token

later-none : (q : ℕ) → later_of 0 q ≡ q
later-none q = grind (arith, nat_tests)

module _ (config : FormatConfig) (text : Text) (h : Head) where
  abbrev runs : List Act → Store → Store
  runs acts w = run config text (map (act_at h) acts) w

  abbrev did : Act → Store → Store
  did x w = stored (step config text (act_at h x) w.0.state) w

  none_written : (test : Spacing → Bool) (acts : List Act) (w : Seat) → only_spacing test acts ≡ true → written_at config text h acts w ≡ 0
  unfolding written_at
  none_written test [] w e = refl
  none_written test (spacing x ∷ acts) w e = later-none _ ∙ none_written test acts _ (and_parts (test x) (only_spacing test acts) e).1
  none_written test (arms.write_text ∷ acts) w e = absurd (false≢true e)
  none_written test (arms.write_keyword ∷ acts) w e = absurd (false≢true e)
  none_written test (write_sign x ∷ acts) w e = absurd (false≢true e)

  spacing-trimmed : (x : Spacing) (w : Store) → (did (spacing x) w).0.position.trimmed ≡ w.0.position.trimmed
  unfolding appended advanced step
  spacing-trimmed x w = ap (trimmed_after w.0.position.length w.0.position.trimmed) (spacing-white x w.0.state)

  spacing-length : (x : Spacing) (w : Store) → is_quiet x ≡ true → (did (spacing x) w).0.position.length ≡ w.0.position.length
  unfolding appended advanced step do_spacing
  spacing-length newline w e = absurd (false≢true e)
  spacing-length space w e = add-zero w.0.position.length
  spacing-length indent w e = add-zero w.0.position.length
  spacing-length dedent w e = add-zero w.0.position.length
  spacing-length (note b) w e = add-zero w.0.position.length
  spacing-length blank_line w e = absurd (false≢true e)
  spacing-length blank_line_before_comment w e = absurd (false≢true e)
  spacing-length line_or_space w e = absurd (false≢true e)

  keeps_trimmed : (test : Spacing → Bool) (acts : List Act) (w : Store) → only_spacing test acts ≡ true → (runs acts w).0.position.trimmed ≡ w.0.position.trimmed
  keeps_trimmed test [] w e = refl
  keeps_trimmed test (spacing x ∷ acts) w e =
      keeps_trimmed test acts (did (spacing x) w) (and_parts (test x) (only_spacing test acts) e).1 ∙ spacing-trimmed x w
  keeps_trimmed test (arms.write_text ∷ acts) w e = absurd (false≢true e)
  keeps_trimmed test (arms.write_keyword ∷ acts) w e = absurd (false≢true e)
  keeps_trimmed test (write_sign x ∷ acts) w e = absurd (false≢true e)

  keeps_length : (acts : List Act) (w : Store) → only_spacing is_quiet acts ≡ true → (runs acts w).0.position.length ≡ w.0.position.length
  keeps_length [] w e = refl
  keeps_length (spacing x ∷ acts) w e =
      let b = and_parts (is_quiet x) (only_spacing is_quiet acts) e in
      keeps_length acts (did (spacing x) w) b.1 ∙ spacing-length x w b.0
  keeps_length (arms.write_text ∷ acts) w e = absurd (false≢true e)
  keeps_length (arms.write_keyword ∷ acts) w e = absurd (false≢true e)
  keeps_length (write_sign x ∷ acts) w e = absurd (false≢true e)

  -- a spacing before goes by
  before : (x : Spacing) (acts : List Act) (w : Store) {p : ℕ} → p ≡ written_at config text h acts (seat_of (did (spacing x) w))
      → p ≡ written_at config text h (spacing x ∷ acts) (seat_of w)
  unfolding written_at
  before x acts w e = e ∙ ap (written_at config text h acts) (seat-step (step config text (act_at h (spacing x)) w.0.state) w) ∙ sym (later-none _)

  -- ── a fixed sign

  sign_placed : (acts : List Act) (w : Store) → sign_once acts ≡ true → (runs acts w).0.position.trimmed ≡ written_at config text h acts (seat_of w)
  unfolding written_at step write_token
  sign_placed [] w e = absurd (false≢true e)
  sign_placed (spacing x ∷ acts) w e = before x acts w (sign_placed acts (did (spacing x) w) e)
  sign_placed (arms.write_text ∷ acts) w e = absurd (false≢true e)
  sign_placed (arms.write_keyword ∷ acts) w e = absurd (false≢true e)
  sign_placed (write_sign x ∷ acts) w e =
      let cs = fresh (sign_byte x) ∷ [] in
      let one : trimmed_after (from config cs w) w.0.position.trimmed (trimmed_length (bytes_of cs)) ≡ suc (from config cs w) =
      ap (trimmed_after (from config cs w) w.0.position.trimmed) (sign_black x) ∙ omega arith in
      keeps_trimmed (λ _. true) acts (did (write_sign x) w) e
      ∙ wrote_trimmed config cs w
      ∙ one
      ∙ sym (ap (later_of (suc (from config cs w))) (none_written (λ _. true) acts _ e))

  -- ── the token's text

  abbrev bytes : List ℕ
  bytes = token_text text h.start h.end

  -- what follows a text moves neither number that tells its place
  after_text_lem : (line : Bool) (acts : List Act) (w : Store) → only_spacing (λ x. line || is_quiet x) acts ≡ true → (line ≡ true → trimmed_length bytes ≡ 0 → ⊥)
      → place_as written.Text bytes (runs acts w).0.position ≡ place_as written.Text bytes w.0.position
  unfolding place_as
  after_text_lem true acts w e b =
      rw (ne_eqb (trimmed_length bytes) 0 (b refl)) (ap (λ n. n - trimmed_length bytes + 1) (keeps_trimmed (λ x. true) acts w e))
  after_text_lem false acts w e b =
      let l = keeps_length acts w e in
      let k = keeps_trimmed is_quiet acts w e in
      λ i. cond (eqb (trimmed_length bytes) 0) (l i - length bytes + 1) (k i - trimmed_length bytes + 1)

  -- cells with as many bytes, of which trimming leaves as many
  module _ (cs : List Cell) (n : length (bytes_of cs) ≡ length bytes) (k : trimmed_length (bytes_of cs) ≡ trimmed_length bytes) where
    wrote_place : (w : Store) → place_as written.Text bytes (stored (write_token config cs w.0.state) w).0.position ≡ suc (from config cs w)
    wrote_place w =
        place-back bytes (from config cs w) w.0.position.trimmed _
        (wrote_length config cs w ∙ ap (λ m. from config cs w + m) n)
        (wrote_trimmed config cs w ∙ ap (trimmed_after (from config cs w) w.0.position.trimmed) k)

  text-bytes : bytes_of (span_cells text h.start h.end) ≡ bytes
  text-bytes = bytes-span text h.start h.end

  cased : List Cell
  cased = map (cell_in_case config.uppercase_keywords) (span_cells text h.start h.end)

  cased_bytes : bytes_of cased ≡ map (to_case config.uppercase_keywords) bytes
  unfolding cased
  cased_bytes = bytes-in_case config.uppercase_keywords (span_cells text h.start h.end) ∙ ap (map (to_case config.uppercase_keywords)) text-bytes

  module _ (line : Bool) (b : line ≡ true → trimmed_length bytes ≡ 0 → ⊥) where
    text-placed : (acts : List Act) (w : Store) → text_once (λ x. line || is_quiet x) acts ≡ true
        → place_as written.Text bytes (runs acts w).0.position ≡ written_at config text h acts (seat_of w)
    unfolding written_at step write_token write_keyword cased
    text-placed [] w e = absurd (false≢true e)
    text-placed (spacing x ∷ acts) w e = before x acts w (text-placed acts (did (spacing x) w) e)
    text-placed (arms.write_text ∷ acts) w e =
        let cs = span_cells text h.start h.end in
        after_text_lem line acts (did arms.write_text w) e b
        ∙ wrote_place cs (ap length text-bytes) (ap trimmed_length text-bytes) w
        ∙ sym (ap (later_of (suc (from config cs w))) (none_written _ acts _ e))
    text-placed (arms.write_keyword ∷ acts) w e =
        let u = config.uppercase_keywords in
        after_text_lem line acts (did arms.write_keyword w) e b
        ∙ wrote_place cased (ap length cased_bytes ∙ length-map bytes (to_case u)) (ap trimmed_length cased_bytes ∙ trimmed-in_case u bytes) w
        ∙ sym (ap (later_of (suc (from config cased w))) (none_written _ acts _ e))
    text-placed (write_sign x ∷ acts) w e = absurd (false≢true e)

    fits-placed : (x : Written) (acts : List Act) (w : Store) → fits x line acts ≡ true
        → place_as x bytes (runs acts w).0.position ≡ written_at config text h acts (seat_of w)
    unfolding place_as
    fits-placed written.Nothing acts w e = sym (none_written is_quiet acts (seat_of w) e)
    fits-placed written.Text acts w e = text-placed acts w e
    fits-placed written.Sign acts w e = sign_placed acts w e

-- ── a line comment is not all white space

comment_black : (b : List ℕ) → is_line_comment b ≡ true → trimmed_length b ≡ 0 → ⊥
unfolding is_line_comment is_white_byte
comment_black [] e z = false≢true e
comment_black (x ∷ []) e z = false≢true e
comment_black (x ∷ y ∷ b) e z =
    let hyphen : x ≡ 45 = eqb-true x 45 (and_parts (eqb x 45) (eqb y 45) e).0 in
    let first : trimmed_length (x ∷ []) ≡ 1 = ap (λ (c : ℕ). trimmed_length (c ∷ [])) hyphen ∙ trimmed-one 45 in
    go (trimmed_length (y ∷ b)) (sym (trimmed-cons x (y ∷ b) (omega arith) ∙ ap (λ (n : ℕ). trimmed_after 1 n (trimmed_length (y ∷ b))) first) ∙ z)
  where
    go : (m : ℕ) → trimmed_after 1 1 m ≡ 0 → ⊥
    go zero f = omega arith
    go (suc m) f = omega arith

line-black : (text : Text) (h : Head) → is_line (seen text h) ≡ true → trimmed_length (token_text text h.start h.end) ≡ 0 → ⊥
unfolding seen
line-black text h e =
    let b = and_parts (eqb h.kind Kinds.Comment) _ e in
    let read : is_read h.kind ≡ true = ap is_read (eqb-true h.kind Kinds.Comment b.0) in
    comment_black (token_text text h.start h.end) (subst (λ (x : Bool). is_line_comment (cond x (token_text text h.start h.end) []) ≡ true) read b.1)

-- what is noted for a token is its place
pub note-right : {s : Signs} {r : Arms} → Signed s r → (l : Local) (h : Head) (config : FormatConfig) (text : Text) (c : FormatterContext) (xs : List ℕ)
    → place_by s text h (run config text (map (act_at h) (r.at_token l (seen text h)).1) (c, xs)).0.position
    ≡ place_of config text h (r.at_token l (seen text h)).1 (c.state, c.position.length)
unfolding place_by seen
note-right {s} {r} f l h config text c xs =
    ap (cond (eqb h.start h.end) 0)
    (fits-placed config text h (is_line (seen text h)) (line-black text h) (written_as s h.kind) (r.at_token l (seen text h)).1 (c, xs) (f.each l (seen text h)))
