-- Requests E6 and E7 follow from what reports promise.
use mathlib.Core.Path.{◌≡◌, refl, sym, ap, subst}
use mathlib.Core.Bool.{Bool, false}
use mathlib.Core.List.{List, [], ◌∷◌, ◌++◌, map}
use Prim.Native.Nat.{ℕ}
use Rattle.keywords.specs.Words.{bytes}
use Rattle.desk_job.specs.Job.{Answered, printed_answer, decimal, field, pair, refused_line}
use Rattle.book.specs.declared.Tally.{Tally}
use Rattle.book.specs.declared.Reported.{Reported}
use Rattle.std.specs.Prelude.{Result as Opened, Ok, Err}
use Rattle.book.specs.declared.open.BookFault.{BookFault}
use Rattle.book.specs.Book.{fault_number, fault_place, walk, opened, jobs_from}
use Rattle.book.specs.Told.{told_of, answered_job, told_job}
use Rattle.book.specs.Tally.{zeros, tallied}
use Rattle.book.specs.Report.{Called, job_line, job_lines, total_line, report_of, reported}
use Rattle.book.specs.Totals.{Totals}
use Rattle.book.proofs.Totals.{totals}
use Rattle.two_books.specs.Both.{ReportsBoth}
use Rattle.acceptance.specs.Requests.{LineOfJob, Puts, ReportOver, SameReport}

line-of_job : (n : ℕ) (job : List ℕ) → LineOfJob n job (job_line n (told_job job))
unfolding answered_job told_of job_line printed_answer
line-of_job n job =
    record {
      refuses = λ r p e. (ap printed_answer e, ap (λ (a : Answered). job_line n (told_of a)) e);
      prints = λ out e. (ap printed_answer e, ap (λ (a : Answered). job_line n (told_of a)) e);
    }

empty-opened : (more : Bool) (book : List ℕ) → more ≡ false → book ≡ [] → opened more book ≡ Ok 0
unfolding opened walk
empty-opened more book f e = rw (f, e)

zeros-line : total_line zeros ≡ bytes "total jobs 0 refused 0 bytes 0 lines 0" ++ (10 ∷ [])
unfolding total_line decimal field pair
zeros-line = refl

module _ (more : Bool) (book : List ℕ) (held : Tally) (work before : List ℕ) (r : Reported) (after used : List ℕ)
    (h : ◌≡◌ {A = Called} (record { end = r.put; space = after; work = used; tally = r.tally }) (reported more book held work before)) where
  -- what is put, and the tally, by how the book opens
  told-by : (o : Opened ℕ BookFault) → opened more book ≡ o → Puts more book held before r after (report_of o book held work).lines × (r.tally ≡ (report_of o book held work).tally)
  unfolding reported
  told-by o e = let k = rw e at h in (ap (λ (c : Called). record { end = c.end; space = c.space }) k, ap (λ (c : Called). c.tally) k)

  tally-is : (jobs : ℕ) → opened more book ≡ Ok jobs → r.tally ≡ tallied zeros (map told_job (jobs_from jobs book 0))
  unfolding report_of
  tally-is jobs e = (told-by (Ok jobs) e).1

  lines-put : (jobs : ℕ) → opened more book ≡ Ok jobs → Puts more book held before r after (job_lines 1 (map told_job (jobs_from jobs book 0)) ++ total_line r.tally)
  unfolding report_of
  lines-put jobs e = rw (tally-is jobs e) ((told-by (Ok jobs) e).0)

  refusal-put : (f : BookFault) → opened more book ≡ Err f → Puts more book held before r after (refused_line (fault_number f) (fault_place f)) × (r.tally ≡ held)
  unfolding report_of
  refusal-put f = told-by (Err f)

  empty-put : opened more book ≡ Ok 0 → Puts more book held before r after (bytes "total jobs 0 refused 0 bytes 0 lines 0" ++ (10 ∷ []))
  unfolding report_of jobs_from job_lines tallied
  empty-put e = rw (← zeros-line) ((told-by (Ok 0) e).0)

  pub report_over : ReportOver more book held before r after
  report_over =
      record {
        refuses = refusal-put;
        prints = lines-put;
        each_job = line-of_job;
        totals = λ jobs e. subst (Totals (map told_job (jobs_from jobs book 0))) (sym (tally-is jobs e)) (totals (map told_job (jobs_from jobs book 0)));
        empty = λ f e. empty-put (empty-opened more book f e);
      }

pub same-report : {va vb : List ℕ} (more : Bool) (a b : List ℕ) (t : Tally) (wa wb xs us : List ℕ) (r : Reported × Reported) (ys zs : List ℕ)
    → ReportsBoth more a b t wa wb xs us r va vb ys zs → SameReport more a b t xs us r ys zs
same-report {va} {vb} more a b t wa wb xs us r ys zs h =
    record {
      call_a = report_over more a t wa xs r.0 ys va h.first;
      call_b = report_over more b t wb us r.1 zs vb h.second;
      put = λ m e. ap (λ (x : Reported). x.put) (h.masked m e).0;
      bytes = λ m e. (h.masked m e).1;
      tally = λ m e. ap (λ (x : Reported). x.tally) (h.masked m e).0;
    }
