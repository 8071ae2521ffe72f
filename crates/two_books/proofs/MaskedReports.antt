-- Two books that differ only as the masking rule allows have one report and one tally.
use mathlib.Core.Path.{◌≡◌, refl, sym, ap, ◌∙◌}
use mathlib.Core.Bool.{Bool}
use mathlib.Core.List.{List, [], ◌∷◌, ◌++◌, map}
use mathlib.Core.Logic.{⊎_elim}
use Prim.Native.Nat.{ℕ, zero, suc, ◌+◌, ◌-◌, ◌≤◌, ◌<◌}
use native.Mathlib.Omega.{arith}
use lib.ListN.{length, get_or, take, drop}
use lib.Seq.{get_or-take, get_or-drop}
use Rattle.std.proofs.lemmas.Bool.{cases_Bool}
use Rattle.book.specs.declared.Tally.{Tally}
use Rattle.std.specs.Prelude.{Result, Ok, Err}
use Rattle.book.specs.declared.Reported.{Reported}
use Rattle.book.specs.declared.open.BookFault.{BookFault}
use Rattle.book.specs.Book.{job_end, is_whole, walk, opened, jobs_from}
use Rattle.book.specs.Told.{Told, told_job}
use Rattle.book.specs.Tally.{zeros, tallied}
use Rattle.book.specs.Report.{Called, job_lines, total_line, report_of, reported}
use Rattle.two_books.specs.MaskedBooks.{MaskedJobs, Pairs, SameCommands, MaskedBooks}
use Rattle.two_books.specs.Both.{ReportsBoth}
use Rattle.two_books.proofs.MaskedAnswers.{same-told}

-- ── the walk over a book reads no text: its length and the commands are enough

module _ (a b : List ℕ) (l : length a ≡ length b) where
  module _ (at : ℕ) (c : take 5 (drop at a) ≡ take 5 (drop at b)) where
    byte_at : (j : ℕ) → at ≤ j → j < at + 5 → get_or a j 0 ≡ get_or b j 0
    byte_at j l h =
        let i = j - at in
        let e : at + i ≡ j = omega arith in
        let k : i < 5 = omega arith in
        rw (get_or-take 5 (drop at a) i 0 k, get_or-take 5 (drop at b) i 0 k, get_or-drop at a i 0, get_or-drop at b i 0, e) at (ap (λ (x : List ℕ). get_or x i 0) c)

    same_end : job_end a at ≡ job_end b at
    unfolding job_end
    same_end =
        rw (
          byte_at (at + 1) (omega arith) (omega arith),
          byte_at (at + 1 + 1) (omega arith) (omega arith),
          byte_at (at + 1 + 2) (omega arith) (omega arith),
          byte_at (at + 1 + 2 + 1) (omega arith) (omega arith),
        )

    same_whole : is_whole a at ≡ is_whole b at
    unfolding is_whole
    same_whole = rw (l, byte_at at (omega arith) (omega arith), same_end)

  same-walk : (k at n : ℕ) → SameCommands (suc k) a b at → walk k a at n ≡ walk k b at n
  unfolding walk
  same-walk zero at n s = rw (l, same_whole at s.0)
  same-walk (suc k) at n s =
      rw (l, ← (same_whole at s.0), ← (same_end at s.0))
      (⊎_elim (λ w. rw (w, same-walk k (job_end a at) (n + 1) (s.1 w))) (λ w. rw w) (cases_Bool (is_whole a at)))

  pub same-opened : (more : Bool) → SameCommands 257 a b 0 → opened more a ≡ opened more b
  unfolding opened
  same-opened more s = rw (l, same-walk 256 0 0 s)

-- ── one report

all_told_lem : (xs ys : List (List ℕ)) → Pairs MaskedJobs xs ys → map told_job xs ≡ map told_job ys
all_told_lem [] [] h = refl
all_told_lem [] (y ∷ ys) h = absurd h
all_told_lem (x ∷ xs) [] h = absurd h
all_told_lem (x ∷ xs) (y ∷ ys) h = rw (same-told x y h.0, all_told_lem xs ys h.1)

-- lines and tally
record OneReport (a b : List ℕ) (t : Tally) (o u : Result ℕ BookFault) (wa wb : List ℕ) : Type 0 where
  lines : (report_of o a t wa).lines ≡ (report_of u b t wb).lines
  tally : (report_of o a t wa).tally ≡ (report_of u b t wb).tally

module _ (a b : List ℕ) (t : Tally) (wa wb : List ℕ) where
  by_opened : (o : Result ℕ BookFault) → ((count : ℕ) → o ≡ Ok count → Pairs MaskedJobs (jobs_from count a 0) (jobs_from count b 0)) → OneReport a b t o o wa wb
  unfolding report_of
  by_opened (Err e) f = record { lines = refl; tally = refl }
  by_opened (Ok count) f =
      let e = all_told_lem (jobs_from count a 0) (jobs_from count b 0) (f count refl) in
      record {
        lines = ap (λ (told : List Told). job_lines 1 told ++ total_line (tallied zeros told)) e;
        tally = ap (tallied zeros) e;
      }

module _ (more : Bool) (a b : List ℕ) (t : Tally) (wa wb xs us : List ℕ) (r : Reported × Reported) (va vb ys zs : List ℕ)
    (p : ◌≡◌ {A = Called} (record { end = r.0.put; space = ys; work = va; tally = r.0.tally }) (reported more a t wa xs))
    (q : ◌≡◌ {A = Called} (record { end = r.1.put; space = zs; work = vb; tally = r.1.tally }) (reported more b t wb us)) where
  module _ (m : MaskedBooks more a b) (same : xs ≡ us) where
    one : OneReport a b t (opened more a) (opened more b) wa wb
    one = rw (← (same-opened a b m.same_length more m.same_commands)) (by_opened a b t wa wb (opened more a) m.jobs)

    -- what is told of a call, without its working space
    abbrev told : Called → Reported × List ℕ
    told c = (record { put = c.end; tally = c.tally }, c.space)

    alike : ◌≡◌ {A = Reported × List ℕ} (r.0, ys) (r.1, zs)
    unfolding reported
    alike = ap told p ∙ rw (one.lines, one.tally, same) (sym (ap told q))

  pub reports_both : ReportsBoth more a b t wa wb xs us r va vb ys zs
  reports_both = record { first = p; second = q; masked = λ m same. (ap (λ (x : Reported × List ℕ). x.0) (alike m same), ap (λ (x : Reported × List ℕ). x.1) (alike m same)) }
