-- A pair of books of bytes that meets the conditions: two masked jobs, one unchanged and one refused.
use Rattle.std.specs.Prelude.{ℕ, List, [], ◌∷◌, ◌++◌, length}
use Rattle.context.specs.Cells.{Text}
use Rattle.layout.specs.MaskingNeeds.{masked}
use Rattle.book.specs.SmallBooks.{saved, example}

-- a job of width 4 and upper case, with a text of less than 256 bytes
abbrev pub job_of : Text → List ℕ → List ℕ
job_of text tape = 16 ∷ 4 ∷ 17 ∷ 1 ∷ 18 ∷ length text ∷ 0 ∷ 0 ∷ 0 ∷ text ++ tape

-- on the tape of the pair that meets the rule's conditions, with a text of 32 bytes: 236 bytes
abbrev pub masked_job : Text → List ℕ
masked_job text = job_of text masked.tape

unfoldable pub worked_book : Text → List ℕ
worked_book text = saved 236 (masked_job text) ++ saved 236 (masked_job text) ++ saved 22 example ++ saved 0 []
