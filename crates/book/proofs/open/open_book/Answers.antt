-- `open_book` meets its contract: behind so many jobs the walk is the one that allows that many fewer than 256.
use native.Mathlib.Omega.{arith}
use mathlib.Core.Path.{sym, ◌∙◌}
use Prim.Native.Nat.{◌<◌}
use Rattle.book.proofs.Opening.{whole_job, walk_end, walk-18, loop_full, loop_next, opened-walked}
use Rattle.book.proofs.open.open_book.Goals as goal

pub returns-then-not-is_whole : goal.returns-then-not-is_whole
returns-then-not-is_whole c = sym (opened-walked _ _ c.if-more.false c.if-book-gt65536.false ∙ sym c.loop-at.invariant.0 ∙ walk-18 _ _ _ c.loop-at-test.true _ (sym c.if-not-is_whole.ensures))

pub returns-then-jobs-eq256 : goal.returns-then-jobs-eq256
returns-then-jobs-eq256 c = sym (opened-walked _ _ c.if-more.false c.if-book-gt65536.false ∙ sym c.loop-at.invariant.0 ∙ loop_full _ _ _ c.loop-at-test.true (sym c.if-not-is_whole.ensures) c.if-jobs-eq256.true)

pub loop-at-preserved : goal.loop-at-preserved
loop-at-preserved c =
    let w = sym c.if-not-is_whole.ensures in
    let f : c.loop-at.jobs < 256 = omega (arith, c.if-jobs-eq256.false) in
    (rw c.job_end-at.ensures (sym (loop_next _ _ _ c.loop-at-test.true w f) ∙ c.loop-at.invariant.0), (omega (arith, f), omega (arith, c.job_end-at.ensures, whole_job _ _ w)))

pub returns : goal.returns
returns c = sym (opened-walked _ _ c.if-more.false c.if-book-gt65536.false ∙ sym c.loop-at.invariant.0 ∙ walk_end _ _ _ _ (omega arith))
