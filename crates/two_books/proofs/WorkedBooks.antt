-- The conditions are met by a pair of books that differ.
use mathlib.Core.Path.{◌≡◌, refl}
use mathlib.Core.Bool.{false, false≢true}
use mathlib.Core.List.{List}
use Prim.Native.Nat.{ℕ}
use Rattle.layout.specs.MaskingNeeds.{masked}
use Rattle.layout.proofs.MaskingNeeds.{met}
use Rattle.desk_job.specs.Job.{has_command, text_end, read_header}
use Rattle.std.specs.Prelude.{Ok}
use Rattle.book.specs.Book.{job_end, is_whole, walk, opened, jobs_from}
use Rattle.book.specs.SmallBooks.{example}
use Rattle.two_books.specs.MaskedBooks.{MaskedJob, MaskedJobs, equal, masked as masked_jobs, Pairs, MaskedBooks}
use Rattle.two_books.specs.WorkedBooks.{masked_job, worked_book}

abbrev a : List ℕ
a = worked_book masked.first

abbrev b : List ℕ
b = worked_book masked.second

four-jobs : opened false a ≡ Ok 4
unfolding opened walk is_whole job_end worked_book masked example
four-jobs = refl

masked-job : MaskedJob (masked_job masked.first) (masked_job masked.second) 4 1 41
unfolding read_header has_command text_end masked
masked-job = record { header_a = refl; header_b = refl; same_tape = refl; texts = met }

four-pairs : Pairs MaskedJobs (jobs_from 4 a 0) (jobs_from 4 b 0)
unfolding jobs_from job_end worked_book masked example
four-pairs = (masked_jobs 4 1 41 masked-job, (masked_jobs 4 1 41 masked-job, (equal refl, (equal refl, tt))))

pub worked_books : MaskedBooks false a b
unfolding is_whole job_end worked_book masked example
worked_books =
    record {
      same_length = refl;
      same_commands = (refl, λ _. (refl, λ _. (refl, λ _. (refl, λ _. (refl, λ e. absurd (false≢true e))))));
      jobs = λ count e. let n : 4 ≡ count = cc (four-jobs, e) in rw (← n) four-pairs;
    }
