-- An output space of 65,536 bytes holds every report whole.
use Rattle.std.specs.Prelude.{ℕ, ◌≤◌, ◌≡◌, Bool, List, ◌++◌, length, drop}
use Rattle.book.specs.declared.Tally.{Tally}
use Rattle.book.specs.Book.{opened}
use Rattle.book.specs.Report.{report_of, reported}

-- 256 lines of at most 75 bytes, and a last line of at most 115
abbrev pub longest : ℕ
longest = 19315

module _ (more : Bool) (book : List ℕ) (t : Tally) (work space : List ℕ) where
  abbrev pub lines : List ℕ
  lines = (report_of (opened more book) book t work).lines

  pub record Holds : Type 0 where
    -- no report is longer
    pub short : length lines ≤ longest
    -- so all of its bytes are put, and later bytes of the space stay as they were
    pub put : (reported more book t work space).end ≡ length lines
    pub bytes : (reported more book t work space).space ≡ lines ++ drop (length lines) space

-- for every book and every tally, whatever the spaces hold
abbrev pub HoldsEveryReport : Type 0
HoldsEveryReport = (more : Bool) (book : List ℕ) (t : Tally) (work space : List ℕ) → length space ≡ 65536 → Holds more book t work space
