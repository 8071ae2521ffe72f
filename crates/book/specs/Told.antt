-- What a report tells of a job: the answer of the desk's program, whose output buffer has 65,536 bytes.
use Rattle.std.specs.Prelude.{false, List, ℕ, length, Result, Ok, Err}
use Rattle.context.specs.Cells.{count}
use Rattle.desk_job.specs.declared.JobRefused.{JobRefused}
use Rattle.desk_job.specs.Job.{Answered, refused, text, answered, refusal_number, refusal_place, leaves}
use Rattle.book.specs.declared.told.LaidOut.{LaidOut}
use Rattle.book.specs.declared.told.Refusal.{Refusal}

-- the bytes and the lines of the output, or a refusal
abbrev pub Told : Type 0
Told = Result LaidOut Refusal

-- lines are bytes 10 in the output
unfoldable pub told_of : Answered → Told
told_of (refused n p) = Err (record { number = n; place = p })
told_of (text bs) = Ok (record { bytes = length bs; lines = count 10 bs })

-- the number and the place that are told of a refusal
abbrev pub refusal_of : JobRefused → Refusal
refusal_of r = record { number = refusal_number r; place = refusal_place r }

-- a job of a book has an end, so that nothing follows it
unfoldable pub answered_job : List ℕ → Answered
answered_job job = answered false job 65536

abbrev pub told_job : List ℕ → Told
told_job job = told_of (answered_job job)

-- and the buffer afterwards
pub record Telling : Type 0 where
  pub told : Told
  pub work : List ℕ

unfoldable pub telling : Answered → List ℕ → Telling
telling a work = record { told = told_of a; work = (leaves a work).space }
