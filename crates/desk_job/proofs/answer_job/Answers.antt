-- `answer_job` meets its contract, by the cases of the header.
use mathlib.Core.Path.{◌≡◌, sym, ap, ◌∙◌, subst}
use mathlib.Core.Bool.{Bool, true, false}
use mathlib.Core.List.{List}
use Prim.Native.Nat.{ℕ, ◌≤◌}
use native.Mathlib.Omega.{arith}
use lib.ListN.{length}
use borrow.Author.Rules.{rules}
use Rattle.std.specs.Prelude.{Result, Ok, Err, MatchResult, is_ok}
use Rattle.std.proofs.lemmas.Result.{err_from_is_err_and}
use Rattle.desk_job.specs.declared.Header.{Header}
use Rattle.desk_job.specs.declared.JobRefused.{JobRefused}
use Rattle.desk_job.specs.declared.JobRefused.TheVariants as refused
use Rattle.desk_job.specs.Job.{answered_job, leaves, read_header}
use Rattle.desk_job.proofs.HeaderReading.{Within, header_within}
use Rattle.desk_job.proofs.Printing.{job_leaves}
use Rattle.desk_job.proofs.answer_job.Goals as goal

-- r is what `read_header` answers, s the same with its error as a refusal
module _ (more : Bool) (job : List ℕ) (r : Result Header ℕ) (s : Result Header JobRefused) (Q : ℕ → Type 0)
    (variant : is_ok s ≡ is_ok r) (cases : MatchResult r (λ h. s ≡ Ok h) Q) (reads : r ≡ read_header more job) where
  same_header : (h : Header) → s ≡ Ok h → Ok h ≡ read_header more job
  same_header h e = go r variant cases reads
    where
      go : (r : Result Header ℕ) → is_ok s ≡ is_ok r → MatchResult r (λ h. s ≡ Ok h) Q → r ≡ read_header more job → Ok h ≡ read_header more job
      go (Ok k) v c q = cc (e, c, q)
      go (Err d) v c q = let w : true ≡ false = sym (ap is_ok e) ∙ v in (cc)

  within : (h : Header) → s ≡ Ok h → (9 ≤ h.end) × (h.end ≤ length job)
  within h e = subst (Within job) (sym (same_header h e)) (header_within more job)

  -- the error that stood there before
  former : (d : JobRefused) → s ≡ Err d → (p : ℕ) × (Err p ≡ read_header more job) × Q p
  former d e = go r variant cases reads
    where
      go : (r : Result Header ℕ) → is_ok s ≡ is_ok r → MatchResult r (λ h. s ≡ Ok h) Q → r ≡ read_header more job → (p : ℕ) × (Err p ≡ read_header more job) × Q p
      go (Ok k) v c q = let w : false ≡ true = sym (ap is_ok e) ∙ v in (cc)
      go (Err p) v c q = (p, q, c)

pub slice_bounds-layout-count : goal.slice_bounds-layout-count
slice_bounds-layout-count c = omega (arith, within c.args.more c.args.job.now c.read_header.result c.map_err.result _ c.map_err.ensures.variant c.map_err.ensures.cases c.read_header.ensures _ c.in_ok-header.was)

pub slice_bounds-layout-start : goal.slice_bounds-layout-start
slice_bounds-layout-start c = omega (arith, within c.args.more c.args.job.now c.read_header.result c.map_err.result _ c.map_err.ensures.variant c.map_err.ensures.cases c.read_header.ensures _ c.in_ok-header.was)

pub slice_bounds-layout-end : goal.slice_bounds-layout-end
slice_bounds-layout-end c = omega (arith, within c.args.more c.args.job.now c.read_header.result c.map_err.result _ c.map_err.ensures.variant c.map_err.ensures.cases c.read_header.ensures _ c.in_ok-header.was)

pub slice_bounds-layout-count-2 : goal.slice_bounds-layout-count-2
slice_bounds-layout-count-2 c = omega (arith, within c.args.more c.args.job.now c.read_header.result c.map_err.result _ c.map_err.ensures.variant c.map_err.ensures.cases c.read_header.ensures _ c.in_ok-header.was)

pub slice_bounds-layout-start-2 : goal.slice_bounds-layout-start-2
slice_bounds-layout-start-2 c = omega (arith, within c.args.more c.args.job.now c.read_header.result c.map_err.result _ c.map_err.ensures.variant c.map_err.ensures.cases c.read_header.ensures _ c.in_ok-header.was)

pub returns-in_err-header : goal.returns-in_err-header
unfolding answered_job leaves
returns-in_err-header c =
    let q = former c.args.more c.args.job.now c.read_header.result c.map_err.result _ c.map_err.ensures.variant c.map_err.ensures.cases c.read_header.ensures _ c.in_err-header.was in
    let p = err_from_is_err_and c.from_residual.result c.from_residual.ensures.1 in
    let k : c.in_err-header.field-0.0 ≡ refused.Header q.0 = search rules in
    rw (p.1, p.2, k, ← q.1)

pub returns-in_err-length : goal.returns-in_err-length
returns-in_err-length c =
    let p = err_from_is_err_and c.from_residual-in_err-length.result c.from_residual-in_err-length.ensures.1 in
    rw (p.1, p.2) (job_leaves c.args.more c.args.job.now c.args.out.now _ _ _ (same_header c.args.more c.args.job.now c.read_header.result c.map_err.result _ c.map_err.ensures.variant c.map_err.ensures.cases c.read_header.ensures _ c.in_ok-header.was) c.in_err-length.ensures)

pub returns : goal.returns
returns c = job_leaves c.args.more c.args.job.now c.args.out.now _ _ _ (same_header c.args.more c.args.job.now c.read_header.result c.map_err.result _ c.map_err.ensures.variant c.map_err.ensures.cases c.read_header.ensures _ c.in_ok-header.was) c.in_ok-length.ensures
