-- An output space of 65,536 bytes holds every report whole.
use mathlib.Core.Path.{◌≡◌, refl, sym, ap, ◌∙◌}
use mathlib.Core.Bool.{Bool, true, false, cond}
use mathlib.Core.List.{List, [], ◌∷◌, ◌++◌, map}
use Prim.Native.Nat.{ℕ, zero, suc, min, ◌+◌, ◌*◌, ◌/◌, ◌%◌, ◌≤◌}
use native.Mathlib.Nat.{zero-add, min-eq_left}
use native.Mathlib.Omega.{arith}
use lib.ListN.{length, drop, length-append, length-map}
use lib.Dec.{ltb}
use Rattle.keywords.specs.Words.{bytes}
use Rattle.desk_job.specs.Job.{decimal, field, pair, refused_line}
use Rattle.desk_job.specs.Written.{written}
use Rattle.desk_job.proofs.Printing.{splice_front}
use Rattle.book.specs.declared.Tally.{Tally}
use Rattle.std.specs.Prelude.{Result, Ok, Err}
use Rattle.book.specs.declared.open.BookFault.{BookFault}
use Rattle.book.specs.Book.{fault_number, fault_place, job_end, opened, jobs_from}
use Rattle.book.specs.Told.{Told, told_job}
use Rattle.book.specs.Tally.{zeros, tallied}
use Rattle.book.specs.Report.{job_line, total_line, job_lines, report_of, reported}
use Rattle.book.specs.WholeReport.{longest, lines, Holds, HoldsEveryReport}
use Rattle.book.proofs.Walking.{walked}

-- ── numbers and labels

digits_step : (b : Bool) (x y k : ℕ) (ds : List ℕ) → length ds ≤ k → length (cond b (x ∷ []) (ds ++ (y ∷ []))) ≤ suc k
digits_step true x y k ds h = omega arith
digits_step false x y k ds h = omega (arith, h, length-append ds (y ∷ []))

digits : (places n : ℕ) → length (decimal places n) ≤ places
unfolding decimal
digits zero n = omega arith
digits (suc places) n = digits_step (ltb n 10) (48 + n) (48 + n % 10) places (decimal places (n / 10)) (digits places (n / 10))

field-length : (label : List ℕ) (n : ℕ) → length (field label n) ≤ length label + 20
unfolding field
field-length label n = omega (arith, length-append label (decimal 20 n), digits 20 n)

pair-length : (first second : List ℕ) (x y : ℕ) → length (pair first x second y) ≤ length first + length second + 41
unfolding pair
pair-length first second x y =
    omega (
      arith,
      length-append (field first x ++ field second y) (10 ∷ []),
      length-append (field first x) (field second y),
      field-length first x,
      field-length second y,
    )

-- ── lines

job_line_lem : (n : ℕ) (told : Told) → length (job_line n told) ≤ 75
unfolding job_line
job_line_lem n (Err r) =
    omega (arith, length-append (decimal 20 n) (pair (bytes " refused ") r.number (bytes " at ") r.place), digits 20 n, pair-length (bytes " refused ") (bytes " at ") r.number r.place)
job_line_lem n (Ok o) =
    omega (arith, length-append (decimal 20 n) (pair (bytes " bytes ") o.bytes (bytes " lines ") o.lines), digits 20 n, pair-length (bytes " bytes ") (bytes " lines ") o.bytes o.lines)

total_line_lem : (t : Tally) → length (total_line t) ≤ 115
unfolding total_line
total_line_lem t =
    let jobs = field (bytes "total jobs ") t.jobs in
    let refused = field (bytes " refused ") t.refused in
    omega (
      arith,
      length-append (jobs ++ refused) (pair (bytes " bytes ") t.bytes (bytes " lines ") t.lines),
      length-append jobs refused,
      field-length (bytes "total jobs ") t.jobs,
      field-length (bytes " refused ") t.refused,
      pair-length (bytes " bytes ") (bytes " lines ") t.bytes t.lines,
    )

job_lines_lem : (n : ℕ) (told : List Told) → length (job_lines n told) ≤ 75 * length told
unfolding job_lines
job_lines_lem n [] = omega arith
job_lines_lem n (o ∷ rest) = omega (arith, length-append (job_line n o) (job_lines (n + 1) rest), job_line_lem n o, job_lines_lem (n + 1) rest)

jobs-length : (count : ℕ) (book : List ℕ) (at : ℕ) → length (jobs_from count book at) ≡ count
unfolding jobs_from
jobs-length zero book at = refl
jobs-length (suc count) book at = let h = jobs-length count book (job_end book at) in omega (arith, h)

-- ── the report

module _ (more : Bool) (book : List ℕ) (t : Tally) (work : List ℕ) where
  few_lines : (o : Result ℕ BookFault) → opened more book ≡ o → length (report_of o book t work).lines ≤ longest
  unfolding report_of refused_line
  few_lines (Err f) e = let h = pair-length (bytes "refused ") (bytes " at ") (fault_number f) (fault_place f) in omega (arith, h)
  few_lines (Ok count) e =
      let jobs = jobs_from count book 0 in
      let told = map told_job jobs in
      omega (
        arith,
        length-append (job_lines 1 told) (total_line (tallied zeros told)),
        job_lines_lem 1 told,
        total_line_lem (tallied zeros told),
        length-map jobs told_job,
        jobs-length count book 0,
        (walked more book count e).few,
      )

module _ (more : Bool) (book : List ℕ) (t : Tally) (work space : List ℕ) (l : longest ≤ length space) where
  short : length (lines more book t work space) ≤ longest
  short = few_lines more book t work (opened more book) refl

  fits : length (lines more book t work space) ≤ length space
  fits = omega (arith, short, l)

  all-put : (reported more book t work space).end ≡ length (lines more book t work space)
  unfolding reported written
  all-put = ap (λ (n : ℕ). min n (length space)) (zero-add (length (lines more book t work space))) ∙ min-eq_left fits

  all-bytes : (reported more book t work space).space ≡ lines more book t work space ++ drop (length (lines more book t work space)) space
  unfolding reported written
  all-bytes = sym (splice_front (lines more book t work space) space fits)

  pub holds : Holds more book t work space
  holds = record { short = short; put = all-put; bytes = all-bytes }

pub holds-every_report : HoldsEveryReport
holds-every_report more book t work space l = holds more book t work space (omega (arith, l))
