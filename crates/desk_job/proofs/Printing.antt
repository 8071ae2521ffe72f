-- From what `layout` promises to how a job is answered, and from there to what is printed.
use mathlib.Core.Path.{◌≡◌, refl, sym, ap, subst, ◌∙◌}
use mathlib.Core.Bool.{Bool, true, false, cond}
use mathlib.Core.List.{List, ◌++◌}
use Prim.Native.Nat.{ℕ, ◌-◌, ◌≤◌}
use native.Mathlib.Omega.{arith}
use lib.ListN.{length, take, drop, length-drop, length-map}
use lib.Dec.{leb}
use lib.Seq.{take_all}
use borrow.Author.Tests.{leb-true}
use Rattle.context.specs.Cells.{Cell, bytes_of}
use Rattle.context.specs.Splice.{splice}
use Rattle.context.proofs.Splicing.{splice-front}
use Rattle.tape.specs.declared.Fault.{Fault}
use Rattle.tape.specs.Faults.{number}
use Rattle.layout.specs.declared.Answer.{Answer}
use Rattle.layout.specs.declared.Refused.TheVariants.{Input, OutputSpace, MapSpace}
use Rattle.layout.specs.Layout.{original}
use Rattle.layout.specs.Outcome.{Outcome, answer, refusal, laid, Result, fitted, laid_out, outcome}
use Rattle.layout.proofs.AnswerNumbers.{answer_of-injective}
use Rattle.std.specs.Prelude.{Ok, Err, Result as Checked}
use Rattle.desk_job.specs.declared.Header.{Header as HeaderNumbers}
use Rattle.desk_job.specs.declared.JobRefused.{JobRefused}
use Rattle.desk_job.specs.declared.JobRefused.TheVariants.{Header, Layout}
use Rattle.desk_job.specs.Job.{Answered, refused, text, answered_outcome, answered_job, leaves, read_header, accepted, refusal_number, refused_line, printed_answer}
use Rattle.desk_job.proofs.Writing.{Wrote, wrote}

-- no refusal has the number 0
positive : (f : Fault) → 1 ≤ number f
positive f =
    let none : number f ≡ 0 → ⊥ =
    λ z. let e = answer_of-injective (Err (Input (record { fault = f; at = 0 }))) (Ok 0) (ap (λ (n : ℕ). answer n 0) z) in cc in
    omega arith

pub some_number : (r : JobRefused) → refusal_number r ≡ 0 → ⊥
some_number (Header p) z = absurd (omega (arith, z))
some_number (Layout (Input r)) z = absurd (omega (arith, z, positive r.fault))
some_number (Layout (OutputSpace n)) z = absurd (omega (arith, z))
some_number (Layout (MapSpace n)) z = absurd (omega (arith, z))

pub splice_front : (bs xs : List ℕ) → length bs ≤ length xs → bs ++ drop (length bs) xs ≡ splice 0 bs xs
splice_front bs xs h = splice-front bs xs bs (length bs) (omega (arith, h)) (sym (take_all (length bs) bs (omega arith)))

-- ── how a job is answered

fitted-leaves : (b : Bool) (cs : List Cell) (xs : List ℕ) → fitted b cs xs ≡ leaves (cond b (text (bytes_of cs)) (refused 13 (length cs))) xs
unfolding leaves
fitted-leaves true cs xs = rw (length-map cs (λ (c : Cell). c.byte))
fitted-leaves false cs xs = refl

pub laid-leaves : (o : Outcome) (xs : List ℕ) → laid_out o xs ≡ leaves (answered_outcome o (length xs)) xs
unfolding laid_out answered_outcome leaves
laid-leaves (refusal f p) xs = refl
laid-leaves (laid cs) xs = fitted-leaves (leb (length cs) (length xs)) cs xs

-- an accepted job: its text and its tape are parts of the job
pub job_leaves : {r : Result} (more : Bool) (job xs : List ℕ) (width case e : ℕ) → accepted width case e ≡ read_header more job
    → r ≡ laid_out (outcome original width case (take (e - 9) (drop 9 job)) (take (length job - e) (drop e job))) xs
    → r ≡ leaves (answered_job (read_header more job) job (length xs)) xs
unfolding answered_job
job_leaves {r} more job xs width case e h w =
    let l = length-drop e job in
    let tape = take_all (length job - e) (drop e job) (omega (arith, l)) in
    let o = outcome original width case (take (e - 9) (drop 9 job)) (drop e job) in
    rw (← h) (subst (λ (t : List ℕ). r ≡ laid_out (outcome original width case (take (e - 9) (drop 9 job)) t) xs) tape w ∙ laid-leaves o xs)

-- a refusal has a number, and a text fits into so many bytes
abbrev pub Fits : Answered → ℕ → Type 0
Fits (refused n p) room = 1 ≤ n
Fits (text bs) room = length bs ≤ room

laid-fits : (b : Bool) (cs : List Cell) (room : ℕ) → leb (length cs) room ≡ b → Fits (cond b (text (bytes_of cs)) (refused 13 (length cs))) room
laid-fits true cs room l = rw (length-map cs (λ (c : Cell). c.byte)) (leb-true (length cs) room l)
laid-fits false cs room l = omega arith

pub outcome_fits : (o : Outcome) (room : ℕ) → Fits (answered_outcome o room) room
unfolding answered_outcome
outcome_fits (refusal f p) room = positive f
outcome_fits (laid cs) room = laid-fits (leb (length cs) room) cs room refl

pub answer-fits : (h : Checked HeaderNumbers ℕ) (job : List ℕ) (room : ℕ) → Fits (answered_job h job room) room
unfolding answered_job
answer-fits (Err p) job room = omega arith
answer-fits (Ok h) job room =
    outcome_fits (outcome original h.width h.case (take (h.end - 9) (drop 9 job)) (drop h.end job)) room

-- ── what is printed

module _ (r : Answer) (xs out : List ℕ) where
  -- an answer with the number 0: the text is printed
  pub text-printed : (a : Answered) → Fits a (length xs) → ◌≡◌ {A = Result} (record { answer = r; space = out }) (leaves a xs) → r.number ≡ 0
      → Wrote r.value out 0 (printed_answer a) xs
  unfolding leaves printed_answer
  text-printed (refused n p) f h z =
      let e : r.number ≡ n = ap (λ (x : Result). x.answer.number) h in absurd (omega (arith, e, z, f))
  text-printed (text bs) f h z =
      let v : r.value ≡ length bs = ap (λ (x : Result). x.answer.value) h in
      wrote r.value 0 bs xs out (omega (arith, v, f)) (ap (λ (x : Result). x.space) h ∙ splice_front bs xs f)

  -- any other answer: its line is printed, over a space that is as it was
  pub refusal-printed : (s : ℕ) (end : List ℕ) → Wrote s end 0 (refused_line r.number r.value) out → (a : Answered)
      → ◌≡◌ {A = Result} (record { answer = r; space = out }) (leaves a xs) → (r.number ≡ 0 → ⊥) → Wrote s end 0 (printed_answer a) xs
  unfolding leaves printed_answer
  refusal-printed s end w (refused n p) h z =
      subst (λ (x : Result). Wrote s end 0 (refused_line x.answer.number x.answer.value) x.space) h w
  refusal-printed s end w (text bs) h z = absurd (z (ap (λ (x : Result). x.answer.number) h))
