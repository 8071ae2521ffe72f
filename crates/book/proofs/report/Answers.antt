-- `report` meets its contract: the loop's start, each step and the end by the laws of Looping.
use mathlib.Core.Path.{refl, sym}
use borrow.Author.Rules.{rules}
use Rattle.std.specs.Prelude.{Ok, Err}
use Rattle.desk_job.proofs.Writing.{puts_all}
use Rattle.book.specs.Report.{report_of}
use Rattle.book.proofs.Looping.{called, fine_begun, fine_next, fine_end, ready}
use Rattle.book.proofs.report.Goals as goal

pub returns-in-Err : goal.returns-in-Err
unfolding report_of
returns-in-Err c =
    let a = c.args in
    called a.more a.book.now a.tally.now a.work.now a.out.now (Err c.in-Err.fault) (sym c.in-Err.ensures) _ _ _ _ (rw (c.number.ensures, c.place.ensures) at c.print_refusal.ensures) refl refl

pub loop-init : goal.loop-init
loop-init c =
    let a = c.args in
    fine_begun a.more a.book.now a.tally.now a.work.now c.in-Ok.count c.default.result c.new-writer.result (sym c.in-Ok.ensures) (search rules)

pub next-run-requires : goal.next-run-requires
next-run-requires c = ready c.loop.invariant c.loop-test.true c.args.more (sym c.in-Ok.ensures)

pub loop-preserved : goal.loop-preserved
loop-preserved c = fine_next c.loop.invariant c.loop-test.true c.next-run.ensures

pub returns : goal.returns
returns c =
    let a = c.args in
    let f = fine_end c.loop.invariant c.loop-test.false c.put_total.ensures in
    called a.more a.book.now a.tally.now a.work.now a.out.now (Ok c.in-Ok.count) (sym c.in-Ok.ensures) _ _ _ _
    (puts_all c.new-writer.ensures.end c.new-writer.ensures.space f.0 c.end.ensures (search rules)) f.1 f.2
