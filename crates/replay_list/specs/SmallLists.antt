-- Small lists and the lines that are printed for them, as one table.
use Rattle.std.specs.Prelude.{ℕ, Bool, true, false, ◌&&◌, List, [], ◌∷◌, ◌++◌}
use Rattle.keywords.specs.Words.{bytes, same}
use Rattle.layout.specs.CourseSheet.{low_bytes}
use Rattle.replay_list.specs.Replay.{replayed}
use Rattle.replay_list.specs.Line.{replayed_line}

-- `more`: the input goes on after the list
pub record SmallList : Type 0 where
  pub more : Bool
  pub list : List ℕ
  pub line : List ℕ

abbrev pub printed : SmallList → Bool
printed s = same (replayed_line (replayed s.more s.list)) s.line

abbrev pub all_printed : List SmallList → Bool
all_printed [] = true
all_printed (s ∷ rest) = printed s && all_printed rest

-- numbers of eight bytes each
abbrev pub numbers : List ℕ → List ℕ
numbers [] = []
numbers (n ∷ rest) = low_bytes 8 n ++ numbers rest

-- a call without text and tape whose width is refused: 1 at 0; with an output space of so many bytes, and what the record says of it
abbrev pub refused_width : ℕ → ℕ → ℕ → List ℕ
refused_width space number value = numbers (17 ∷ 0 ∷ 0 ∷ 0 ∷ 0 ∷ 0 ∷ space ∷ number ∷ value ∷ [])

abbrev pub prints : List ℕ → List ℕ → SmallList
prints list line = record { more = false; list = list; line = line ++ (10 ∷ []) }

unfoldable pub small_lists : List SmallList
small_lists =
    -- no number of records, and no records
    prints [] (bytes "bad list at record 0") ∷
    prints (numbers (0 ∷ [])) (bytes "0 vectors, 0 differ") ∷
    -- a byte after the last record, in the list and after it
    prints (numbers (0 ∷ []) ++ (0 ∷ [])) (bytes "bad list at record 0") ∷
    record { more = true; list = numbers (0 ∷ []); line = bytes "bad list at record 0" ++ (10 ∷ []) } ∷
    -- a right record, a wrong number, and a wrong place and a wrong number among right ones
    prints (numbers (1 ∷ []) ++ refused_width 0 1 0) (bytes "1 vectors, 0 differ") ∷
    prints (numbers (1 ∷ []) ++ refused_width 0 2 0) (bytes "1 vectors, 1 differ, the first is 0") ∷
    prints (numbers (4 ∷ []) ++ refused_width 0 1 0 ++ refused_width 0 1 1 ++ refused_width 0 1 0 ++ refused_width 0 2 0) (bytes "4 vectors, 2 differ, the first is 1") ∷
    -- a refusal that is said to be a layout of no bytes
    prints (numbers (1 ∷ []) ++ refused_width 0 0 0) (bytes "1 vectors, 1 differ, the first is 0") ∷
    -- one record of two, and a layout that is longer than its space
    prints (numbers (2 ∷ []) ++ refused_width 0 1 0) (bytes "bad list at record 1") ∷
    prints (numbers (2 ∷ []) ++ refused_width 0 1 0 ++ refused_width 0 0 1) (bytes "bad list at record 1") ∷
    []
