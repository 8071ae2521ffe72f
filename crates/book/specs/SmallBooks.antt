-- Small books and what is printed for each: one table.
use Rattle.std.specs.Prelude.{ℕ, zero, suc, Bool, true, false, ◌&&◌, List, [], ◌∷◌, ◌++◌, eqb, Result, Ok, Err}
use Rattle.keywords.specs.Words.{bytes, same}
use Rattle.book.specs.declared.open.BookFault.{BookFault}
use Rattle.book.specs.Book.{fault_number, fault_place, opened}
use Rattle.book.specs.Tally.{zeros}
use Rattle.book.specs.Report.{report_of}

pub record Row : Type 0 where
  pub book : List ℕ
  pub prints : List ℕ

-- command 20 with a length below 256, and the job
abbrev pub saved : ℕ → List ℕ → List ℕ
saved length job = 32 ∷ length ∷ 0 ∷ 0 ∷ 0 ∷ job

-- document 01's job, which prints 61 0A
unfoldable pub example : List ℕ
example = 16 ∷ 4 ∷ 17 ∷ 1 ∷ 18 ∷ 1 ∷ 0 ∷ 0 ∷ 0 ∷ 97 ∷ 1 ∷ 0 ∷ 0 ∷ 0 ∷ 0 ∷ 0 ∷ 0 ∷ 1 ∷ 0 ∷ 0 ∷ 0 ∷ 3 ∷ []

-- the same with a tape of one unknown command
unfoldable pub faulty : List ℕ
faulty = 16 ∷ 4 ∷ 17 ∷ 1 ∷ 18 ∷ 1 ∷ 0 ∷ 0 ∷ 0 ∷ 97 ∷ 4 ∷ []

unfoldable pub small_books : List Row
small_books =
    record { book = []; prints = bytes "total jobs 0 refused 0 bytes 0 lines 0" ++ (10 ∷ []) }
    ∷ record {
      book = saved 22 example ++ saved 0 [] ++ saved 11 faulty;
      prints =
          bytes "1 bytes 2 lines 1" ++ (10 ∷ bytes "2 refused 14 at 0")
          ++ (10 ∷ bytes "3 refused 6 at 0")
          ++ (10 ∷ bytes "total jobs 3 refused 2 bytes 2 lines 1")
          ++ (10 ∷ []);
    }
    ∷ record { book = saved 22 example ++ (33 ∷ 0 ∷ 0 ∷ 0 ∷ 0 ∷ []); prints = bytes "refused 18 at 27" ++ (10 ∷ []) }
    ∷ record { book = saved 22 example ++ (32 ∷ 0 ∷ 0 ∷ 0 ∷ []); prints = bytes "refused 18 at 27" ++ (10 ∷ []) }
    ∷ record { book = saved 23 example; prints = bytes "refused 18 at 0" ++ (10 ∷ []) }
    ∷ []

abbrev pub all_printed : List Row → Bool
all_printed [] = true
all_printed (row ∷ rest) = same (report_of (opened false row.book) row.book zeros []).lines row.prints && all_printed rest

-- so many jobs of no bytes
abbrev pub empties : ℕ → List ℕ
empties zero = []
empties (suc n) = saved 0 (empties n)

-- the book is refused so, or it has so many jobs
abbrev pub is_fault : Result ℕ BookFault → ℕ → ℕ → Bool
is_fault (Err f) number place = eqb (fault_number f) number && eqb (fault_place f) place
is_fault (Ok count) number place = false

abbrev pub has_jobs : Result ℕ BookFault → ℕ → Bool
has_jobs (Err f) many = false
has_jobs (Ok count) many = eqb count many

-- the 256th job is taken and a 257th is 19 at its offset; there 18 comes before 19
abbrev pub limits : Bool
limits =
    has_jobs (opened false (empties 256)) 256
    && (is_fault (opened false (empties 257)) 19 1280 && is_fault (opened false (empties 256 ++ (33 ∷ 0 ∷ 0 ∷ 0 ∷ 0 ∷ []))) 18 1280)
