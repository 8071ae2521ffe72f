-- The change requests of document 02, in its words, as promises about calls. E1 is in Demands, in the form that it gave demand 3.
use Rattle.std.specs.Prelude.{◌≡◌, Bool, true, false, cond, List, [], ◌∷◌, ◌++◌, map, ℕ, suc, ◌+◌, ◌*◌, ◌≤◌, ◌<◌, length, get_or, take, drop, T, eqb, Option, Some, None, Ok, Err}
use Rattle.keywords.specs.Words.{bytes, capitals, is_keyword, is_value_keyword, words}
use Rattle.keywords.specs.declared.Word.{Word}
use Rattle.keywords.specs.declared.Word.TheVariants.{Plain, Value, Keyword}
use Rattle.context.specs.Cells.{Text, Origin, from, Cell, count, fresh}
use Rattle.context.specs.Alike.{Agree}
use Rattle.context.specs.Context.{new_state}
use Rattle.tape.specs.declared.Fault.{Fault as TapeFault}
use Rattle.tape.specs.Faults.{number}
use Rattle.tape.specs.declared.Head.{Head}
use Rattle.tape.specs.Tree.{Children, done, token, node, Tree, tokens, copied}
use Rattle.tape.specs.Tape.{got, refused as refused_for}
use Rattle.tape.specs.Call.{read_call}
use Rattle.layout.specs.declared.Answer.{Answer}
use Rattle.layout.specs.Arms.{Act, Sign, sign_byte}
use Rattle.layout.specs.Calls.{act_at, raw, calls}
use Rattle.layout.specs.Layout.{original, format}
use Rattle.layout.specs.Outcome.{Result, answer, config_of, laid_out, names_length, outcome}
use Rattle.layout.specs.TokenMap.{writes, places_from}
use Rattle.layout.specs.Masking.{MaskedPair, AsciiPair, MaskedPairForLayout, SameLines}
use Rattle.layout.specs.MapCall.{map_cells_after, numbers}
use Rattle.desk_job.specs.Written.{Written, written}
use Rattle.desk_job.specs.Job.{refused, text, answered, printed, decimal, pair, refused_line}
use Rattle.book.specs.declared.Tally.{Tally}
use Rattle.book.specs.declared.Reported.{Reported}
use Rattle.book.specs.declared.open.BookFault.{BookFault}
use Rattle.book.specs.Book.{fault_number, fault_place, opened, jobs_from}
use Rattle.book.specs.Told.{told_job}
use Rattle.book.specs.Report.{job_line, job_lines, total_line}
use Rattle.book.specs.Totals.{Totals}
use Rattle.two_books.specs.MaskedBooks.{MaskedBooks}
use Rattle.acceptance.specs.Demands.{formatted}

-- "a listed word's place in the list, counted from 0 (the first, if it stands there twice)": the entry at i is w, and none before it is
pub record FirstAt (w : List ℕ) (list : List (List ℕ)) (i : ℕ) : Type 0 where
  pub inside : i < length list
  pub is : get_or list i [] ≡ w
  pub first : (j : ℕ) → j < i → get_or list j [] ≡ w → ⊥

-- E2: "The keyword test should say plain word, value word or other keyword, and give a listed word's place"
pub record SortOfWord (w : List ℕ) (r : Word) : Type 0 where
  pub plain : is_keyword w ≡ false → r ≡ Plain
  pub value : (i : ℕ) → FirstAt (capitals w) words i → is_value_keyword w ≡ true → r ≡ Value i
  pub keyword : (i : ℕ) → FirstAt (capitals w) words i → is_value_keyword w ≡ false → r ≡ Keyword i

-- E3. The bytes since the last newline; all, where there is none
abbrev pub last_line : List ℕ → List ℕ
last_line [] = []
last_line (b ∷ bs) = cond (eqb (count 10 (b ∷ bs)) 0) (b ∷ bs) (last_line bs)

-- "two numbers per token"
abbrev pub two_per_token : Tree → ℕ
two_per_token t = 2 * length (tokens t.kids)

-- where the first byte of each token stands in what is written, in the order of the tape, counted from 1: "A fixed sign written for a token counts as its
-- byte." 0 for "a token that isn't written, lies below a node copied as typed, has empty text"
abbrev pub first_bytes : ℕ → ℕ → Text → Tree → List ℕ
first_bytes width case source t = places_from (config_of width case) source original.pick t (new_state, 0)

-- the token i of the tape, counted from 0
abbrev pub token_at : Tree → ℕ → Head
token_at t i = get_or (tokens t.kids) i (record { kind = 0; start = 0; end = 0; at = 0 })

-- a byte of the output that is a token's first byte: copied from the token's start, or a fixed sign
pub data FirstByte (h : Head) (c : Cell) : Type 0 where
  of_text : c.origin ≡ from h.start → FirstByte h c
  of_sign : (x : Sign) → c ≡ fresh (sign_byte x) → FirstByte h c

-- which tokens lie below a node copied as typed, in the order of the tape
unfoldable pub below_copied : Children → List Bool
below_copied done = []
below_copied (token h rest) = false ∷ below_copied rest
below_copied (node h kids rest) = cond (copied h.kind kids) (map (λ (x : Head). true) (tokens kids)) (below_copied kids) ++ below_copied rest

abbrev pub below_copied_of : Tree → List Bool
below_copied_of t = cond (copied t.head.kind t.kids) (map (λ (x : Head). true) (tokens t.kids)) (below_copied t.kids)

-- of one call with a map; the output space holds `before` and then `after`, the map space `map_before` and then `map_after`
module _ (width case : ℕ) (text : Text) (tape before map_before : List ℕ) (r : Answer) (after map_after : List ℕ) where
  -- the two numbers of token i, counted from 0
  abbrev pub Numbers : ℕ → ℕ → ℕ → Type 0
  Numbers i line column = (get_or map_after (2 * i) 0 ≡ line) × (get_or map_after (2 * i + 1) 0 ≡ column)

  -- both spaces suffice for the tree
  pub record Placed (t : Tree) : Type 0 where
    -- "The call also lays out and answers 0 and L"
    pub answers : r ≡ answer 0 (length (formatted width case text t))
    pub output : after ≡ formatted width case text t ++ drop (length (formatted width case text t)) before
    -- "for every token of the tape, in order, two 64-bit numbers, the output line and column of its first byte, both from 1, columns in bytes": n bytes
    -- stand before it in the output, whose last newline is no token's
    pub places : (i n : ℕ) → get_or (first_bytes width case text t) i 0 ≡ suc n → suc n < length (formatted width case text t)
        → Numbers i (1 + count 10 (take n (formatted width case text t))) (1 + length (last_line (take n (formatted width case text t))))
    -- "its first byte"; "A fixed sign written for a token counts as its byte."
    pub first : (i n : ℕ) → get_or (first_bytes width case text t) i 0 ≡ suc n → suc n < length (formatted width case text t)
        → FirstByte (token_at t i) (get_or (format original (config_of width case) text t) n (fresh 0))
    -- every token has a place that has text and for which some call of the layout writes its text or a sign
    pub has_place : (j : ℕ) (h : Head) (x : Act) → get_or (calls original.pick text t) j (raw 0 0) ≡ act_at h x → writes x ≡ true → (h.start ≡ h.end → ⊥)
        → (i : ℕ) × (i < length (tokens t.kids)) × (token_at t i ≡ h) × (0 < get_or (first_bytes width case text t) i 0)
    -- "A token that isn't written, lies below a node copied as typed, has empty text, or loses all its bytes to trimming gets 0 and 0."
    pub no_place : (i : ℕ) → i < length (tokens t.kids) → get_or (first_bytes width case text t) i 0 ≡ 0 → Numbers i 0 0
    pub below_copy : (i : ℕ) → i < length (tokens t.kids) → get_or (below_copied_of t) i false ≡ true → Numbers i 0 0
    pub empty_text : (i : ℕ) → i < length (tokens t.kids) → (token_at t i).start ≡ (token_at t i).end → Numbers i 0 0
    pub trimmed : (i : ℕ) → i < length (tokens t.kids) → length (formatted width case text t) ≤ get_or (first_bytes width case text t) i 0 → Numbers i 0 0
    -- "map numbers past the last token's are untouched"
    pub past : drop (two_per_token t) map_after ≡ drop (two_per_token t) map_before

  -- "map and output stay untouched on a refusal"
  abbrev pub RefusedWith : ℕ → ℕ → Type 0
  RefusedWith n v = (r ≡ answer n v) × (after ≡ before) × (map_after ≡ map_before)

  pub record TokenPlaces : Type 0 where
    -- 1 to 12, 15 and 16
    pub refuses : (f : TapeFault) (p : ℕ) → read_call width case text tape ≡ refused_for f p → RefusedWith (number f) p
    -- 13, whatever the map space
    pub too_short : (t : Tree) (p : ℕ) → read_call width case text tape ≡ got t p → length before < length (formatted width case text t)
        → RefusedWith 13 (length (formatted width case text t))
    -- "17, map space below two numbers per token, comes after 13 with the count of numbers needed", also where the layout needs 0 bytes
    pub map_too_short : (t : Tree) (p : ℕ) → read_call width case text tape ≡ got t p → length (formatted width case text t) ≤ length before
        → length map_before < two_per_token t → RefusedWith 17 (two_per_token t)
    pub fits : (t : Tree) (p : ℕ) → read_call width case text tape ≡ got t p → length (formatted width case text t) ≤ length before
        → two_per_token t ≤ length map_before → Placed t

-- E3, of a call with a map on each of two texts; the output spaces hold before_a and before_b, and then after_a and after_b, the map spaces map_before_a and
-- map_before_b, and then map_after_a and map_after_b
module _ (width case : ℕ) (a b : Text) (tape before_a before_b map_before_a map_before_b : List ℕ) (r : Answer × Answer) (after_a after_b map_after_a map_after_b : List ℕ) where
  -- where the byte at i of the output space comes from
  abbrev pub map_origin_at : Text → List ℕ → List ℕ → ℕ → Origin
  map_origin_at source before lent i = (get_or (map_cells_after (outcome original width case source tape) (numbers width case source tape) before lent) i (fresh 0)).origin

  -- "The masking rule covers the map too, for calls lent the same map space": what follows where the texts differ only as a rule allows
  pub record MapsAlikeWhere (Allowed : Type 0) : Type 0 where
    pub answers : Allowed → before_a ≡ before_b → map_before_a ≡ map_before_b → r.0 ≡ r.1
    pub same_place : Allowed → before_a ≡ before_b → map_before_a ≡ map_before_b → (i : ℕ) → map_origin_at a before_a map_before_a i ≡ map_origin_at b before_b map_before_b i
    pub alike : Allowed → before_a ≡ before_b → map_before_a ≡ map_before_b → (i : ℕ) → Agree a b (map_origin_at a before_a map_before_a i) → get_or after_a i 0 ≡ get_or after_b i 0
    pub lines : Allowed → before_a ≡ before_b → map_before_a ≡ map_before_b → SameLines after_a after_b
    pub maps : Allowed → before_a ≡ before_b → map_before_a ≡ map_before_b → map_after_a ≡ map_after_b

  pub record MapsMasked : Type 0 where
    -- each call is the one that `TokenPlaces` speaks of
    pub call_a : TokenPlaces width case a tape before_a map_before_a r.0 after_a map_after_a
    pub call_b : TokenPlaces width case b tape before_b map_before_b r.1 after_b map_after_b
    pub alike : MapsAlikeWhere (MaskedPair width case a b tape)
    -- for ASCII texts in demand 3's own words
    pub ascii : MapsAlikeWhere (AsciiPair width case a b tape)
    -- the same holds where the texts differ as the layout needs, which is less, and have their newlines at the same places
    pub stronger : MapsAlikeWhere (MaskedPairForLayout width case a b tape × SameLines a b)

-- E4: "for any length and bytes it is handed, it answers the first entry equal to them, or none". Equal to them is an entry that is so many of the
-- bytes; where there are fewer none is.
pub record FirstEntry (n : ℕ) (bytes : List ℕ) (r : Option ℕ) : Type 0 where
  pub first : n ≤ length bytes → (i : ℕ) → FirstAt (take n bytes) words i → r ≡ Some i
  pub none : (n ≤ length bytes → (i : ℕ) → i < length words → get_or words i [] ≡ take n bytes → ⊥) → r ≡ None

-- E5, for two calls on one input; the output spaces hold before_a and before_b, and then after_a and after_b
pub record OneCall (width case : ℕ) (text : Text) (tape before_a before_b : List ℕ) (r : Answer × Answer) (after_a after_b : List ℕ) : Type 0 where
  -- each call is the one that demands 1 and 2 speak of
  pub call_a : ◌≡◌ {A = Result} (record { answer = r.0; space = after_a }) (laid_out (outcome original width case text tape) before_a)
  pub call_b : ◌≡◌ {A = Result} (record { answer = r.1; space = after_b }) (laid_out (outcome original width case text tape) before_b)
  -- "one call that gives the needed length in an accepted answer and in 13": it answers nothing else where 1 to 12, 15 and 16 let it pass, be the
  -- space of 0 bytes or of any other length
  pub named : (t : Tree) (p : ℕ) → read_call width case text tape ≡ got t p → T (names_length r.0) × (r.0.value ≡ length (formatted width case text t))
  -- "On one input, 13 and acceptance name the same length whatever the space."
  pub same_length : T (names_length r.0) → T (names_length r.1) → r.0.value ≡ r.1.value
  -- "A layout that needs 0 bytes is then accepted."
  pub needs_none : (t : Tree) (p : ℕ) → read_call width case text tape ≡ got t p → length (formatted width case text t) ≡ 0 → r.0 ≡ answer 0 0

-- E6, of one job: "for job N from 1, `N bytes B lines L` or `N refused R at P`, each job answered as the first program answers it. Lines are bytes
-- 10 in the output." The line of job n, beside what the first program prints for that job alone, with its output buffer of 65,536 bytes
pub record LineOfJob (n : ℕ) (job line : List ℕ) : Type 0 where
  pub refuses : (r p : ℕ) → answered false job 65536 ≡ refused r p
      → (printed false job 65536 ≡ refused_line r p) × (line ≡ decimal 20 n ++ pair (bytes " refused ") r (bytes " at ") p)
  pub prints : (out : List ℕ) → answered false job 65536 ≡ text out
      → (printed false job 65536 ≡ out) × (line ≡ decimal 20 n ++ pair (bytes " bytes ") (length out) (bytes " lines ") (count 10 out))

-- E6, of one call on a book, whose input goes on after it or not; the tally holds `held` before and `r.tally` afterwards, the output space
-- `before` and `after`
module _ (more : Bool) (book : List ℕ) (held : Tally) (before : List ℕ) (r : Reported) (after : List ℕ) where
  -- these bytes are put, as far as the space goes, and nothing else of it changes
  abbrev pub Puts : List ℕ → Type 0
  Puts lines = ◌≡◌ {A = Written} (record { end = r.put; space = after }) (written 0 lines before)

  pub record ReportOver : Type 0 where
    -- "only the line `refused N at P` is printed"; "a refused book leaves it as it was"
    pub refuses : (f : BookFault) → opened more book ≡ Err f → Puts (refused_line (fault_number f) (fault_place f)) × (r.tally ≡ held)
    -- a line for each job, and "the last line"
    pub prints : (jobs : ℕ) → opened more book ≡ Ok jobs → Puts (job_lines 1 (map told_job (jobs_from jobs book 0)) ++ total_line r.tally)
    pub each_job : (n : ℕ) (job : List ℕ) → LineOfJob n job (job_line n (told_job job))
    -- "S and T equal the sums of the B and L printed above it, K counts the refused lines and J all jobs"; "from zeros whatever it held"
    pub totals : (jobs : ℕ) → opened more book ≡ Ok jobs → Totals (map told_job (jobs_from jobs book 0)) r.tally
    -- "An empty book prints only the total line, all zeros."
    pub empty : more ≡ false → book ≡ [] → Puts (bytes "total jobs 0 refused 0 bytes 0 lines 0" ++ (10 ∷ []))

-- E7: "Two books that differ only as the masking rule allows, in any number of jobs at the same time, must give the same report byte for byte",
-- and the same tally; the output spaces hold before_a and before_b, and then after_a and after_b
pub record SameReport (more : Bool) (a b : List ℕ) (held : Tally) (before_a before_b : List ℕ) (r : Reported × Reported) (after_a after_b : List ℕ) : Type 0 where
  -- each call is the one that E6 speaks of
  pub call_a : ReportOver more a held before_a r.0 after_a
  pub call_b : ReportOver more b held before_b r.1 after_b
  pub put : MaskedBooks more a b → before_a ≡ before_b → r.0.put ≡ r.1.put
  pub bytes : MaskedBooks more a b → before_a ≡ before_b → after_a ≡ after_b
  pub tally : MaskedBooks more a b → before_a ≡ before_b → r.0.tally ≡ r.1.tally
