-- What a step asks and does.
use mathlib.Core.Path.{◌≡◌, refl, ap, subst, ◌∙◌}
use mathlib.Core.Bool.{true}
use mathlib.Core.List.{List}
use Prim.Native.Nat.{ℕ, zero, suc, ◌+◌, ◌-◌, ◌≤◌, ◌<◌}
use native.Mathlib.Numerals.{sub-one}
use native.Mathlib.Omega.{arith}
use lib.ListN.{take, drop}
use Rattle.std.specs.Prelude.{Ok, Err}
use Rattle.desk_job.specs.declared.write.Writer.{Writer}
use Rattle.desk_job.specs.Puts.{Puts}
use Rattle.book.specs.declared.Tally.{Tally}
use Rattle.book.specs.declared.Run.{Run}
use Rattle.book.specs.Tally.{with_job, bytes_told, lines_told, Room}
use Rattle.book.specs.Told.{Told, Telling, telling, answered_job, told_job}
use Rattle.book.specs.Book.{job_end, job_at, is_whole}
use Rattle.book.specs.Report.{job_line}
use Rattle.book.specs.Steps.{all_whole, Counted, Stepped}
use Rattle.book.proofs.Telling.{told-bytes, told-lines}
use Rattle.std.proofs.lemmas.Bool.{and_parts}

-- what a job adds, number by number
module _ (t : Tally) where
  pub jobs-with : (o : Told) → (with_job t o).jobs ≡ t.jobs + 1
  unfolding with_job
  jobs-with (Err r) = refl
  jobs-with (Ok o) = refl

  refused-with : (o : Told) → (with_job t o).refused ≤ t.refused + 1
  unfolding with_job
  refused-with (Err r) = omega arith
  refused-with (Ok o) = omega arith

  pub bytes-with : (o : Told) → (with_job t o).bytes ≡ t.bytes + bytes_told o
  unfolding with_job bytes_told
  bytes-with (Err r) = omega arith
  bytes-with (Ok o) = refl

  pub lines-with : (o : Told) → (with_job t o).lines ≡ t.lines + lines_told o
  unfolding with_job lines_told
  lines-with (Err r) = omega arith
  lines-with (Ok o) = refl

pub first-whole : (k : ℕ) (book : List ℕ) (at : ℕ) → 0 < k → all_whole k book at ≡ true → is_whole book at ≡ true
unfolding all_whole
first-whole zero book at l h = absurd (omega (arith, l))
first-whole (suc k) book at l h = (and_parts _ _ h).0

pub rest_whole : (k : ℕ) (book : List ℕ) (at : ℕ) → 0 < k → all_whole k book at ≡ true → all_whole (k - 1) book (job_end book at) ≡ true
unfolding all_whole
rest_whole zero book at l h = absurd (omega (arith, l))
rest_whole (suc k) book at l h = rw (sub-one) (and_parts (is_whole book at) _ h).1

-- a tally of few jobs has room for one more, and is then that of one more
module _ (most : ℕ) (t : Tally) (h : Counted most t) (job : List ℕ) where
  room_for : most ≤ 255 → Room t (told_job job)
  room_for l =
      let b = told-bytes job in
      let n = told-lines job in
      record {
        jobs = omega (arith, h.jobs, l);
        refused = omega (arith, h.jobs, h.refused, l);
        bytes = omega (arith, h.jobs, h.bytes, b, l);
        lines = omega (arith, h.jobs, h.lines, n, l);
      }

  pub counted-next : Counted (most + 1) (with_job t (told_job job))
  counted-next =
      let b = told-bytes job in
      let n = told-lines job in
      let j = jobs-with t (told_job job) in
      record {
        jobs = omega (arith, j, h.jobs);
        refused = omega (arith, j, refused-with t (told_job job), h.refused);
        bytes = omega (arith, j, bytes-with t (told_job job), h.bytes, b);
        lines = omega (arith, j, lines-with t (told_job job), h.lines, n);
      }

-- what the code has of its callees is the step
module _ (book : List ℕ) (run : Run) (work : List ℕ) (e : ℕ) (o : Told) (used : List ℕ) (ends : e ≡ job_end book run.at)
    (tells : ◌≡◌ {A = Telling} (record { told = o; work = used }) (telling (answered_job (take (e - (run.at + 5)) (drop (run.at + 5) book))) work)) where
  told_is : ◌≡◌ {A = Telling} (record { told = o; work = used }) (telling (answered_job (job_at book run.at)) work)
  told_is = tells ∙ ap (λ (m : ℕ). telling (answered_job (take (m - (run.at + 5)) (drop (run.at + 5) book))) work) ends

  told_by : o ≡ told_job (job_at book run.at)
  unfolding telling
  told_by = ap (λ (x : Telling). x.told) told_is

  pub room_of : Counted 255 run.tally → Room run.tally o
  room_of h = rw told_by (room_for 255 run.tally h (job_at book run.at) (omega arith))

  pub step_of : (next : Tally) (out after : Writer) → Puts out (job_line (run.tally.jobs + 1) o) after → next ≡ with_job run.tally o
      → Stepped book run work out (record { at = e; tally = next }) used after
  step_of next out after h g =
      record {
        at = ends;
        tally = g ∙ ap (with_job run.tally) told_by;
        laid_out = ap (λ (x : Telling). x.work) told_is;
        line = subst (λ (x : Told). Puts out (job_line (run.tally.jobs + 1) x) after) told_by h;
      }
