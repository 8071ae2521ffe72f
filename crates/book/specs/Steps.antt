-- What one step of the call does, and what it asks. No part of what the call promises.
use Rattle.std.specs.Prelude.{ℕ, zero, suc, ◌+◌, ◌*◌, ◌≤◌, ◌≡◌, Bool, true, ◌&&◌, List, length}
use Rattle.desk_job.specs.declared.write.Writer.{Writer}
use Rattle.desk_job.specs.Puts.{Puts}
use Rattle.book.specs.declared.Run.{Run}
use Rattle.book.specs.declared.Tally.{Tally}
use Rattle.book.specs.Book.{job_end, job_at, is_whole}
use Rattle.book.specs.Told.{answered_job, telling, told_job}
use Rattle.book.specs.Tally.{with_job}
use Rattle.book.specs.Report.{job_line}

-- so many jobs stand whole from `at` on
unfoldable pub all_whole : ℕ → List ℕ → ℕ → Bool
all_whole zero book at = true
all_whole (suc more) book at = is_whole book at && all_whole more book (job_end book at)

-- one job: it is answered in the working space, counted, and told on its line
pub record Stepped (book : List ℕ) (run : Run) (work : List ℕ) (out : Writer) (next : Run) (used : List ℕ) (after : Writer) : Type 0 where
  pub at : next.at ≡ job_end book run.at
  pub tally : next.tally ≡ with_job run.tally (told_job (job_at book run.at))
  pub laid_out : used ≡ (telling (answered_job (job_at book run.at)) work).work
  pub line : Puts out (job_line (run.tally.jobs + 1) (told_job (job_at book run.at))) after

-- the tally is that of so many jobs or fewer, none of which has more than 65,536 bytes or lines
pub record Counted (most : ℕ) (t : Tally) : Type 0 where
  pub jobs : t.jobs ≤ most
  pub refused : t.refused ≤ t.jobs
  pub bytes : t.bytes ≤ 65536 * t.jobs
  pub lines : t.lines ≤ 65536 * t.jobs

-- what a step asks: a job stands whole in a book that is not too long, and the tally is that of at most 255 jobs
pub record Ready (book : List ℕ) (run : Run) : Type 0 where
  pub short : length book ≤ 65536
  pub whole : is_whole book run.at ≡ true
  pub counted : Counted 255 run.tally
