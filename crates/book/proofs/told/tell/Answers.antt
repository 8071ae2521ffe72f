-- `tell` meets its contract, by the cases of the answer.
use mathlib.Core.Path.{refl, sym}
use lib.Seq.{length-take-le}
use Rattle.std.proofs.lemmas.Result.{err_from_is_err_and}
use Rattle.desk_job.proofs.Printing.{answer-fits, some_number}
use Rattle.book.proofs.Telling.{told-refusal, told_text, text-within}
use Rattle.book.proofs.told.tell.Goals as goal

pub returns-in_err-length : goal.returns-in_err-length
returns-in_err-length c =
    let p = err_from_is_err_and c.from_residual.result c.from_residual.ensures.1 in
    rw (p.1, p.2) (told-refusal _ _ _ _ c.in_err-length.ensures (some_number _))

pub slice_bounds-count_newlines-end : goal.slice_bounds-count_newlines-end
slice_bounds-count_newlines-end c = text-within _ _ _ _ _ (answer-fits _ _ _) c.in_ok-length.ensures refl

pub slice_bounds-count_newlines-end-2 : goal.slice_bounds-count_newlines-end-2
slice_bounds-count_newlines-end-2 c = sym (length-take-le _ _ (text-within _ _ _ _ _ (answer-fits _ _ _) c.in_ok-length.ensures refl))

pub returns : goal.returns
returns c = told_text _ _ _ _ _ (answer-fits _ _ _) c.in_ok-length.ensures refl _ c.count_newlines.ensures
