-- `replay_list` meets its contract: after each turn the definition from the next record on, with what is counted so far, is that of the list.
use mathlib.Core.Path.{◌≡◌, ◌∙◌, sym}
use native.Mathlib.Omega.{arith}
use borrow.Author.Rules.{rules}
use Rattle.desk_job.proofs.HeaderReading.{answered-false, answered-true}
use Rattle.replay_list.proofs.Replaying.{too_short_lem, start, broken-record, next-record, compared_end, input_goes_on, list-goes_on, list-ends}
use Rattle.replay_list.specs.Replay.{no_records}
use Rattle.replay_list.proofs.replay.replay_list.Goals as goal

pub returns-then-list-lt8 : goal.returns-then-list-lt8
returns-then-list-lt8 c = too_short_lem c.args.more c.args.list.now c.if-list-lt8.true

pub loop-at-init : goal.loop-at-init
loop-at-init c =
    let none : c.default-tally.result ≡ no_records = search rules in
    rw none (start c.args.more c.args.list.now c.u64_at-records.result c.if-list-lt8.false c.u64_at-records.ensures)

pub returns-in_default : goal.returns-in_default
returns-in_default c =
    let l = c.loop-at in
    broken-record c.args.more c.args.list.now c.u64_at-records.result l.at l.tally l.rest.now l.invariant c.loop-at-test.true (sym c.in_default.is ∙ c.replay_record.ensures)

pub slice_bounds-rest-count-in-loop-at : goal.slice_bounds-rest-count-in-loop-at
slice_bounds-rest-count-in-loop-at c = compared_end c.loop-at.rest.now c.in-Some.compared (sym c.in-Some.is ∙ c.replay_record.ensures)

pub slice_bounds-rest-start-in-loop-at : goal.slice_bounds-rest-start-in-loop-at
slice_bounds-rest-start-in-loop-at c = compared_end c.loop-at.rest.now c.in-Some.compared (sym c.in-Some.is ∙ c.replay_record.ensures)

pub loop-at-preserved : goal.loop-at-preserved
loop-at-preserved c =
    let l = c.loop-at in
    next-record c.args.more c.args.list.now c.u64_at-records.result l.at l.tally l.rest.now l.invariant c.loop-at-test.true c.in-Some.compared _ (sym c.in-Some.is ∙ c.replay_record.ensures) c.counted-tally.ensures

pub returns-then-more : goal.returns-then-more
returns-then-more c =
    let l = c.loop-at in
    input_goes_on c.args.more c.args.list.now c.u64_at-records.result l.at l.tally l.rest.now l.invariant c.loop-at-test.false (omega arith) c.if-more.true

pub returns-then-not-is_empty : goal.returns-then-not-is_empty
returns-then-not-is_empty c =
    let l = c.loop-at in
    list-goes_on c.args.more c.args.list.now c.u64_at-records.result l.at l.tally l.rest.now l.invariant c.loop-at-test.false (omega arith) c.if-more.false (answered-false c.is_empty.ensures c.if-not-is_empty.true)

pub returns : goal.returns
returns c =
    let l = c.loop-at in
    list-ends c.args.more c.args.list.now c.u64_at-records.result l.at l.tally l.rest.now l.invariant c.loop-at-test.false (omega arith) c.if-more.false (answered-true c.is_empty.ensures c.if-not-is_empty.false)
