-- The report over a book: its lines, and the tally afterwards.
use Rattle.std.specs.Prelude.{ℕ, ◌+◌, Bool, List, [], ◌∷◌, ◌++◌, map, Result, Ok, Err}
use Rattle.keywords.specs.Words.{bytes}
use Rattle.desk_job.specs.Job.{decimal, field, pair, refused_line}
use Rattle.desk_job.specs.Written.{written}
use Rattle.book.specs.declared.Tally.{Tally}
use Rattle.book.specs.declared.open.BookFault.{BookFault}
use Rattle.book.specs.Book.{fault_number, fault_place, jobs_from, opened}
use Rattle.book.specs.Told.{Told, answered_job, told_job, telling}
use Rattle.book.specs.Tally.{zeros, tallied}

-- N bytes B lines L, or N refused R at P
unfoldable pub job_line : ℕ → Told → List ℕ
job_line n (Err r) = decimal 20 n ++ pair (bytes " refused ") r.number (bytes " at ") r.place
job_line n (Ok o) = decimal 20 n ++ pair (bytes " bytes ") o.bytes (bytes " lines ") o.lines

-- total jobs J refused K bytes S lines T
unfoldable pub total_line : Tally → List ℕ
total_line t =
    field (bytes "total jobs ") t.jobs
    ++ field (bytes " refused ") t.refused
    ++ pair (bytes " bytes ") t.bytes (bytes " lines ") t.lines

-- the jobs' lines, from number n on
unfoldable pub job_lines : ℕ → List Told → List ℕ
job_lines n [] = []
job_lines n (told ∷ rest) = job_line n told ++ job_lines (n + 1) rest

-- the working space after these jobs
unfoldable pub work_after : List (List ℕ) → List ℕ → List ℕ
work_after [] work = work
work_after (job ∷ rest) work = work_after rest (telling (answered_job job) work).work

pub record Report : Type 0 where
  pub lines : List ℕ
  pub tally : Tally
  pub work : List ℕ

-- a refused book leaves the tally as it was; else it is raised from zeros, whatever it held
unfoldable pub report_of : Result ℕ BookFault → List ℕ → Tally → List ℕ → Report
report_of (Err f) book t work = record { lines = refused_line (fault_number f) (fault_place f); tally = t; work = work }
report_of (Ok count) book t work =
    let jobs = jobs_from count book 0 in
    let told = map told_job jobs in
    let total = tallied zeros told in
    record { lines = job_lines 1 told ++ total_line total; tally = total; work = work_after jobs work }

-- what the call leaves: how many bytes it has put, the space, the lent working space and the lent tally
pub record Called : Type 0 where
  pub end : ℕ
  pub space : List ℕ
  pub work : List ℕ
  pub tally : Tally

unfoldable pub reported : Bool → List ℕ → Tally → List ℕ → List ℕ → Called
reported more book t work space =
    let report = report_of (opened more book) book t work in
    let put = written 0 report.lines space in
    record { end = put.end; space = put.space; work = report.work; tally = report.tally }
