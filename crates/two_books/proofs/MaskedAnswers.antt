-- The first program's answers to two masked jobs are alike, and so the same is told of both.
use mathlib.Core.Path.{◌≡◌, refl, ap}
use mathlib.Core.Bool.{false}
use mathlib.Core.List.{List, [], ◌∷◌, ◌++◌}
use mathlib.Core.Logic.{⊎_elim}
use Prim.Native.Nat.{ℕ, suc, ◌-◌}
use native.Mathlib.Omega.{arith}
use lib.ListN.{length, take, drop, replicate, length-replicate, get_or-append}
use Rattle.std.proofs.lemmas.Bool.{cases_lt}
use Rattle.std.proofs.lemmas.List.{get_or_past}
use Rattle.context.specs.Cells.{Text, count}
use Rattle.layout.specs.declared.Answer.{Answer}
use Rattle.layout.specs.Layout.{original}
use Rattle.layout.specs.Outcome.{Outcome, laid_out, outcome}
use Rattle.layout.specs.Masking.{MaskedPairForLayout, SameLines, AlikeByLines}
use Rattle.layout.proofs.TwoCalls.{masking_original, demand_3}
use Rattle.desk_job.specs.Job.{Answered, refused, text, read_header, accepted, answered_outcome, answered_job as answered_by, leaves}
use Rattle.desk_job.proofs.Printing.{Fits, outcome_fits, laid-leaves}
use Rattle.book.specs.Told.{told_of, answered_job, told_job}
use Rattle.two_books.specs.MaskedBooks.{MaskedJob, MaskedJobs, equal, masked}
use Rattle.two_books.specs.Both.{AnswersAlike}

-- ── lines of two lists of one length

same-front : (bs cs xs ys : List ℕ) → length bs ≡ length cs → SameLines (bs ++ xs) (cs ++ ys) → SameLines bs cs
same-front bs cs xs ys l h i =
    ⊎_elim (λ u. rw (get_or-append bs xs 0 i u, get_or-append cs ys 0 i (omega (arith, l, u))) at (h i))
    (λ u. rw (get_or_past bs i 0 u, get_or_past cs i 0 (omega (arith, l, u)))) (cases_lt i (length bs))

same_count : (bs cs : List ℕ) → length bs ≡ length cs → SameLines bs cs → count 10 bs ≡ count 10 cs
same_count [] [] l h = refl
same_count [] (c ∷ cs) l h = absurd (omega (arith, l))
same_count (b ∷ bs) [] l h = absurd (omega (arith, l))
same_count (b ∷ bs) (c ∷ cs) l h = rw (h 0, same_count bs cs (omega (arith, l)) (λ i. h (suc i)))

-- ── from what a call leaves to the answer

left-alike : (room : ℕ) (x y : Answered) (space : List ℕ) → Fits x room → Fits y room → (leaves x space).answer ≡ (leaves y space).answer
    → SameLines (leaves x space).space (leaves y space).space → AnswersAlike x y
unfolding leaves
left-alike room (refused n p) (refused m q) space f g e h = (ap (λ (a : Answer). a.number) e, ap (λ (a : Answer). a.value) e)
left-alike room (refused n p) (text cs) space f g e h = let k : n ≡ 0 = ap (λ (a : Answer). a.number) e in absurd (omega (arith, k, f))
left-alike room (text bs) (refused m q) space f g e h = let k : 0 ≡ m = ap (λ (a : Answer). a.number) e in absurd (omega (arith, k, g))
left-alike room (text bs) (text cs) space f g e h =
    let k = ap (λ (a : Answer). a.value) e in (k, same-front bs cs (drop (length bs) space) (drop (length cs) space) k h)

outcomes_alike : (x y : Outcome) (space : List ℕ) → (laid_out x space).answer ≡ (laid_out y space).answer → SameLines (laid_out x space).space (laid_out y space).space
    → AnswersAlike (answered_outcome x (length space)) (answered_outcome y (length space))
outcomes_alike x y space e h =
    let p = laid-leaves x space in
    let q = laid-leaves y space in
    left-alike (length space) (answered_outcome x (length space)) (answered_outcome y (length space)) space (outcome_fits x (length space)) (outcome_fits y (length space))
    (rw (p, q) at e) (rw (p, q) at h)

-- ── of two jobs with one header and one tape

module _ (a b : List ℕ) (width case end : ℕ) (header_a : read_header false a ≡ accepted width case end) (header_b : read_header false b ≡ accepted width case end)
    (same_tape : drop end a ≡ drop end b) where
  abbrev text_of : List ℕ → Text
  text_of job = take (end - 9) (drop 9 job)

  -- of a job's text on the first job's tape
  abbrev outcome_of : List ℕ → Outcome
  outcome_of job = outcome original width case (text_of job) (drop end a)

  abbrev space : List ℕ
  space = replicate 65536 0

  by_lines_lem : AlikeByLines (text_of a) (text_of b) (outcome_of a) (outcome_of b) space → AnswersAlike (answered_job a) (answered_job b)
  unfolding answered_job answered_by
  by_lines_lem k =
      let alike = outcomes_alike (outcome_of a) (outcome_of b) space k.alike.answers k.lines in
      rw (header_a, header_b, ← same_tape) (rw (length-replicate {A = ℕ} 65536 0) at alike)

  -- less than a masked pair is enough: what a layout needs, and newlines at the same places
  pub answers-for_layout : MaskedPairForLayout width case (text_of a) (text_of b) (drop end a) → SameLines (text_of a) (text_of b) → AnswersAlike (answered_job a) (answered_job b)
  answers-for_layout m same =
      let k = masking_original width case (text_of a) (text_of b) (drop end a) m space in by_lines_lem (record { alike = k; lines = k.lines same })

pub masked-answers : (a b : List ℕ) (width case end : ℕ) → MaskedJob a b width case end → AnswersAlike (answered_job a) (answered_job b)
masked-answers a b width case end m =
    by_lines_lem a b width case end m.header_a m.header_b m.same_tape
    (demand_3 width case (take (end - 9) (drop 9 a)) (take (end - 9) (drop 9 b)) (drop end a) m.texts (replicate 65536 0))

told-alike : (x y : Answered) → AnswersAlike x y → told_of x ≡ told_of y
unfolding told_of
told-alike (refused n p) (refused m q) h = rw (h.0, h.1)
told-alike (refused n p) (text cs) h = absurd h
told-alike (text bs) (refused m q) h = absurd h
told-alike (text bs) (text cs) h = rw (h.0, same_count bs cs h.0 h.1)

pub same-told : (a b : List ℕ) → MaskedJobs a b → told_job a ≡ told_job b
same-told a b (equal e) = ap told_job e
same-told a b (masked width case end m) = told-alike (answered_job a) (answered_job b) (masked-answers a b width case end m)
