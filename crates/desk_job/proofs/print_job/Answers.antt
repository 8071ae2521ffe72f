-- `print_job` meets its contract, by the cases of the answer.
use mathlib.Core.Path.{refl, subst₂}
use Prim.Native.Nat.{ℕ}
use Rattle.desk_job.specs.Job.{refused_line}
use Rattle.desk_job.proofs.Printing.{answer-fits, text-printed, refusal-printed, some_number}
use Rattle.desk_job.proofs.Writing.{Wrote}
use Rattle.desk_job.proofs.print_job.Goals as goal

pub returns-in-Ok : goal.returns-in-Ok
returns-in-Ok c = text-printed _ _ _ _ (answer-fits _ _ _) c.in-Ok.ensures refl

pub returns-in-Err : goal.returns-in-Err
returns-in-Err c =
    let w = c.print_refusal in
    let told = subst₂ (λ (n p : ℕ). Wrote w.result w.new.out 0 (refused_line n p) c.answer_job.new.out) c.number.ensures c.place.ensures w.ensures in
    refusal-printed _ _ _ _ _ told _ c.in-Err.ensures (some_number c.in-Err.refused)
