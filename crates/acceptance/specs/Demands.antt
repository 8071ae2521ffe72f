-- The demands of document 00, in its words, as promises about calls; demand 3 as request E1 of document 02 words it. Where they speak of measuring, the
-- call with an output space of 0 bytes is meant (request E5). Read with layout/specs/Outcome
-- and Layout for what a layout is, tape/specs/Call and Tape for the refusals, utf8/specs/Table for well-formed text, and layout/specs/Masking for what
-- demand 3 asks of two texts.
use Rattle.std.specs.Prelude.{◌≡◌, List, ◌++◌, ℕ, ◌≤◌, ◌<◌, length, get_or, drop}
use Rattle.basics.specs.Case.{to_lowercase}
use Rattle.context.specs.Cells.{Text, Origin, from, bytes_of, fresh}
use Rattle.context.specs.Alike.{Agree}
use Rattle.tape.specs.declared.Fault.{Fault}
use Rattle.tape.specs.Faults.{number}
use Rattle.tape.specs.Tree.{Tree}
use Rattle.tape.specs.Tape.{refused, got}
use Rattle.tape.specs.Call.{read_call}
use Rattle.layout.specs.Layout.{original, format}
use Rattle.layout.specs.declared.Answer.{Answer}
use Rattle.layout.specs.Outcome.{Result, answer, config_of, laid_out, outcome}
use Rattle.layout.specs.Masking.{MaskedPair, AsciiPair, MaskedPairForLayout, SameLines, cells_after}

-- what `format` returns for the tree
abbrev pub formatted : ℕ → ℕ → Text → Tree → List ℕ
formatted width case text t = bytes_of (format original (config_of width case) text t)

-- a call on a text and a tape, with a width and a case; the output space holds `before` and then `after`
module _ (width case : ℕ) (text tape before : List ℕ) (r : Answer) (after : List ℕ) where
  -- "If the text, tree, settings or output space are bad in any way, the call refuses with the number and place that document 01 names,
  -- writes nothing, and still ends; it refuses nothing else, and the caller owes no check beforehand."
  pub record Demand1 : Type 0 where
    -- 1 to 12, 15 and 16
    pub refuses : (f : Fault) (p : ℕ) → read_call width case text tape ≡ refused f p → (r ≡ answer (number f) p) × (after ≡ before)
    -- 13
    pub too_short : (t : Tree) (p : ℕ) → read_call width case text tape ≡ got t p → length before < length (formatted width case text t)
        → (r ≡ answer 13 (length (formatted width case text t))) × (after ≡ before)
    -- nothing else
    pub accepts : (t : Tree) (p : ℕ) → read_call width case text tape ≡ got t p → length (formatted width case text t) ≤ length before → r.number ≡ 0

  -- "For every accepted input the bytes written equal what the Rust `format` returns, by proof against a definition taken from that code"
  pub record Demand2 : Type 0 where
    pub writes : (t : Tree) (p : ℕ) → read_call width case text tape ≡ got t p → length (formatted width case text t) ≤ length before
        → (r ≡ answer 0 (length (formatted width case text t)))
        × (after ≡ formatted width case text t ++ drop (length (formatted width case text t)) before)

-- a call on each of two texts, with the same tree and settings; the output spaces hold before_a and before_b, and then after_a and after_b
module _ (width case : ℕ) (a b : Text) (tape before_a before_b : List ℕ) (r : Answer × Answer) (after_a after_b : List ℕ) where
  -- where the byte at i of the output space comes from
  abbrev pub origin_at : Text → List ℕ → ℕ → Origin
  origin_at text before i = (get_or (cells_after (outcome original width case text tape) before) i (fresh 0)).origin

  -- each call is the one that demands 1 and 2 speak of
  pub record EachCall : Type 0 where
    pub call_a : ◌≡◌ {A = Result} (record { answer = r.0; space = after_a }) (laid_out (outcome original width case a tape) before_a)
    pub call_b : ◌≡◌ {A = Result} (record { answer = r.1; space = after_b }) (laid_out (outcome original width case b tape) before_b)

  -- what follows where the texts differ only as a rule allows
  pub record AlikeWhere (Allowed : Type 0) : Type 0 where
    -- "Then measuring gives both texts the same answer, and so does layout, refused or not, the needed length included."
    pub measures : Allowed → length before_a ≡ 0 → length before_b ≡ 0 → r.0 ≡ r.1
    pub lays_out : Allowed → before_a ≡ before_b → r.0 ≡ r.1
    -- "Afterwards the output spaces are alike at every byte but those copied from a masked place, and such a byte is copied from the same
    -- place in both."
    pub same_place : Allowed → before_a ≡ before_b → (i : ℕ) → origin_at a before_a i ≡ origin_at b before_b i
    pub alike : Allowed → before_a ≡ before_b → (i : ℕ) → Agree a b (origin_at a before_a i) → get_or after_a i 0 ≡ get_or after_b i 0

  -- "Whatever is masked inside the quotes: take any two [..] texts of one length with the same tree, settings and output space", and let them
  -- differ as `MaskedPair` says in request E1's words
  pub record Demand3 : Type 0 where
    pub calls : EachCall
    pub alike : AlikeWhere (MaskedPair width case a b tape)
    -- the manual's words: it lays out line for line like the query it came from
    pub lines : MaskedPair width case a b tape → before_a ≡ before_b → SameLines after_a after_b
    -- what "copied from" means: save for the case of a letter, the byte is the text's
    pub copied : (i p : ℕ) → origin_at a before_a i ≡ from p → to_lowercase (get_or after_a i 0) ≡ to_lowercase (get_or a p 0)
    -- for ASCII texts in demand 3's own words, which speak of places and not of characters
    pub ascii : AlikeWhere (AsciiPair width case a b tape)
    pub ascii_lines : AsciiPair width case a b tape → before_a ≡ before_b → SameLines after_a after_b
    -- the same holds where the texts differ as the layout needs, which is less
    pub stronger : AlikeWhere (MaskedPairForLayout width case a b tape)
    pub stronger_lines : MaskedPairForLayout width case a b tape → before_a ≡ before_b → SameLines a b → SameLines after_a after_b
