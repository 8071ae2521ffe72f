-- Laws of what is told of a job: from the program's answer to what is told.
use mathlib.Core.Path.{◌≡◌, ap, ◌∙◌}
use mathlib.Core.Bool.{Bool, true, false, cond}
use mathlib.Core.List.{List, [], ◌∷◌, ◌++◌}
use Prim.Native.Nat.{ℕ, suc, ◌+◌, ◌≤◌}
use native.Mathlib.Omega.{arith}
use lib.ListN.{length, take, drop, length-append}
use lib.Seq.{take-append_seam}
use lib.Dec.{eqb}
use Rattle.context.specs.Cells.{count}
use Rattle.layout.specs.declared.Answer.{Answer}
use Rattle.layout.specs.Outcome.{Result}
use Rattle.desk_job.specs.Job.{Answered, refused, text, answered, leaves, read_header}
use Rattle.desk_job.proofs.Printing.{Fits, answer-fits}
use Rattle.std.specs.Prelude.{Ok, Err}
use Rattle.book.specs.Told.{Telling, telling, told_of, told_job, answered_job}
use Rattle.book.specs.Tally.{bytes_told, lines_told}

count-step : (b : Bool) (k m : ℕ) → k ≤ m → cond b 1 0 + k ≤ suc m
count-step true k m h = omega (arith, h)
count-step false k m h = omega (arith, h)

count-few : (bs : List ℕ) → count 10 bs ≤ length bs
count-few [] = omega arith
count-few (b ∷ bs) = count-step (eqb b 10) (count 10 bs) (length bs) (count-few bs)

-- ── no more bytes and lines are told than the buffer has bytes

job_fits : (job : List ℕ) → Fits (answered_job job) 65536
unfolding answered_job
job_fits job = answer-fits (read_header false job) job 65536

few_bytes : (a : Answered) → Fits a 65536 → bytes_told (told_of a) ≤ 65536
unfolding told_of bytes_told
few_bytes (refused n p) f = omega arith
few_bytes (text bs) f = f

few_lines : (a : Answered) → Fits a 65536 → lines_told (told_of a) ≤ 65536
unfolding told_of lines_told
few_lines (refused n p) f = omega arith
few_lines (text bs) f = omega (arith, f, count-few bs)

pub told-bytes : (job : List ℕ) → bytes_told (told_job job) ≤ 65536
told-bytes job = few_bytes (answered_job job) (job_fits job)

pub told-lines : (job : List ℕ) → lines_told (told_job job) ≤ 65536
told-lines job = few_lines (answered_job job) (job_fits job)

-- ── from the answer to what is told

module _ (r : Answer) (work out : List ℕ) where
  pub told-refusal : (a : Answered) → ◌≡◌ {A = Result} (record { answer = r; space = out }) (leaves a work) → (r.number ≡ 0 → ⊥)
      → ◌≡◌ {A = Telling} (record { told = Err (record { number = r.number; place = r.value }); work = out }) (telling a work)
  unfolding leaves told_of telling
  told-refusal (refused n p) h z = ap (λ (x : Result). record { told = Err (record { number = x.answer.number; place = x.answer.value }); work = x.space }) h
  told-refusal (text bs) h z = absurd (z (ap (λ (x : Result). x.answer.number) h))

  pub told_text : (room : ℕ) (a : Answered) → Fits a room → ◌≡◌ {A = Result} (record { answer = r; space = out }) (leaves a work) → r.number ≡ 0 → (n : ℕ) → n ≡ count 10 (take r.value out)
      → ◌≡◌ {A = Telling} (record { told = Ok (record { bytes = r.value; lines = n }); work = out }) (telling a work)
  unfolding leaves told_of telling
  told_text room (refused n p) f h z m e = let k : r.number ≡ n = ap (λ (x : Result). x.answer.number) h in absurd (omega (arith, k, z, f))
  told_text room (text bs) f h z m e =
      let c = e ∙ ap (λ (x : Result). count 10 (take x.answer.value x.space)) h ∙ ap (count 10) (take-append_seam bs (drop (length bs) work)) in
      λ i. record { told = Ok (record { bytes = (h i).answer.value; lines = c i }); work = (h i).space }

  -- what is laid out ends within the space
  pub text-within : (room : ℕ) (a : Answered) → Fits a room → ◌≡◌ {A = Result} (record { answer = r; space = out }) (leaves a work) → r.number ≡ 0 → r.value ≤ length out
  unfolding leaves
  text-within room (refused n p) f h z = let k : r.number ≡ n = ap (λ (x : Result). x.answer.number) h in absurd (omega (arith, k, z, f))
  text-within room (text bs) f h z =
      let v : r.value ≡ length bs = ap (λ (x : Result). x.answer.value) h in
      let l : length out ≡ length (bs ++ drop (length bs) work) = ap (λ (x : Result). length x.space) h in
      omega (arith, v, l, length-append bs (drop (length bs) work))

-- a job in the working space, which has 65,536 bytes
pub told-job : {x : Telling} (job work : List ℕ) → length work ≡ 65536 → x ≡ telling (answered false job (length work)) work → x ≡ telling (answered_job job) work
unfolding answered_job
told-job job work l h = h ∙ ap (λ (n : ℕ). telling (answered false job n) work) l
