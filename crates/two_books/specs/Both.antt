-- What two reports promise: each call's own promise, and the same report and tally for two books that differ only as the masking rule allows.
use Rattle.std.specs.Prelude.{ℕ, ◌≡◌, Bool, List, length}
use Rattle.layout.specs.Masking.{SameLines}
use Rattle.desk_job.specs.Job.{Answered, refused, text}
use Rattle.book.specs.declared.Tally.{Tally}
use Rattle.book.specs.Report.{Called, reported}
use Rattle.book.specs.declared.Reported.{Reported}
use Rattle.two_books.specs.MaskedBooks.{MaskedBooks}

-- what makes it true: the first program answers two masked jobs with the same refusal, or with texts of the same length that go line for line
abbrev pub AnswersAlike : Answered → Answered → Type 0
AnswersAlike (refused n p) (refused m q) = (n ≡ m) × (p ≡ q)
AnswersAlike (refused n p) (text cs) = ⊥
AnswersAlike (text bs) (refused m q) = ⊥
AnswersAlike (text bs) (text cs) = (length bs ≡ length cs) × SameLines bs cs

-- the working spaces hold wa and wb before and va and vb afterwards, the output spaces xs and us, and then ys and zs
pub record ReportsBoth (more : Bool) (a b : List ℕ) (t : Tally) (wa wb xs us : List ℕ) (r : Reported × Reported) (va vb ys zs : List ℕ) : Type 0 where
  pub first : ◌≡◌ {A = Called} (record { end = r.0.put; space = ys; work = va; tally = r.0.tally }) (reported more a t wa xs)
  pub second : ◌≡◌ {A = Called} (record { end = r.1.put; space = zs; work = vb; tally = r.1.tally }) (reported more b t wb us)
  -- byte for byte, and the same tally
  pub masked : MaskedBooks more a b → xs ≡ us → (r.0 ≡ r.1) × (ys ≡ zs)
