-- A book: how its jobs are found, and what it is refused for.
use Rattle.std.specs.Prelude.{ℕ, zero, suc, ◌+◌, ◌-◌, Bool, cond, ◌&&◌, List, [], ◌∷◌, length, get_or, take, drop, leb, ltb, eqb, Result, Ok, Err}
use Rattle.tape.specs.Tape.{u32_at}
use Rattle.book.specs.declared.open.BookFault.{BookFault}
use Rattle.book.specs.declared.open.BookFault.TheVariants.{TooLong, NotWhole, TooMany}

-- the numbers and places of document 02
abbrev pub fault_number : BookFault → ℕ
fault_number TooLong = 18
fault_number (NotWhole at) = 18
fault_number (TooMany at) = 19

abbrev pub fault_place : BookFault → ℕ
fault_place TooLong = 65536
fault_place (NotWhole at) = at
fault_place (TooMany at) = at

-- where the job of the command at `at` ends: its length stands after the command, and the job after that
unfoldable pub job_end : List ℕ → ℕ → ℕ
job_end book at = at + 5 + u32_at book (at + 1)

abbrev pub job_at : List ℕ → ℕ → List ℕ
job_at book at = take (job_end book at - (at + 5)) (drop (at + 5) book)

-- a book command stands at `at`, whole with its job
unfoldable pub is_whole : List ℕ → ℕ → Bool
is_whole book at = leb (at + 5) (length book) && (eqb (get_or book at 0) 32 && leb (job_end book at) (length book))

-- from `at` on, behind n jobs, where so many more are allowed
unfoldable pub walk : ℕ → List ℕ → ℕ → ℕ → Result ℕ BookFault
walk zero book at n =
    cond (leb (length book) at) (Ok n) (cond (is_whole book at) (Err (TooMany at)) (Err (NotWhole at)))
walk (suc more) book at n =
    cond (leb (length book) at) (Ok n) (cond (is_whole book at) (walk more book (job_end book at) (n + 1)) (Err (NotWhole at)))

-- too long comes first (`more`: the input goes on after the book's bytes), then the first fault from the start; 18 comes before 19 at one offset
unfoldable pub opened : Bool → List ℕ → Result ℕ BookFault
opened more book = cond more (Err TooLong) (cond (ltb 65536 (length book)) (Err TooLong) (walk 256 book 0 0))

-- so many jobs from `at` on
unfoldable pub jobs_from : ℕ → List ℕ → ℕ → List (List ℕ)
jobs_from zero book at = []
jobs_from (suc more) book at = job_at book at ∷ jobs_from more book (job_end book at)
