-- `record_agrees` meets its contract: the arrays' fronts are the record's text and tape, zeros included.
use mathlib.Core.Path.{refl, sym}
use native.Mathlib.Omega.{arith}
use Prim.Native.Nat.{ℕ}
use lib.ListN.{replicate, length-replicate}
use lib.Seq.{length-take-le}
use Rattle.replay_list.proofs.RecordLimits.{within_limits}
use Rattle.replay_list.proofs.Replaying.{between-same, length-between, run-copied, record_agrees-of}
use Rattle.replay_list.specs.Record.{tape_start, layout_start, record_end}
use Rattle.replay_list.proofs.replay.record_agrees.Goals as goal

pub copy_to_front-requires : goal.copy_to_front-requires
copy_to_front-requires c =
    let w = (within_limits c.args.fitting.head c.args.fitting.fits).1 in
    let l = length-between 72 c.tape_start-tape_at.result c.args.bytes.now (omega (arith, c.tape_start-tape_at.ensures, c.requires)) in
    omega (arith, l, w.text.stored, c.tape_start-tape_at.ensures, length-replicate {A = ℕ} 262145 0)

pub copy_to_front-requires-2 : goal.copy_to_front-requires-2
copy_to_front-requires-2 c =
    let w = (within_limits c.args.fitting.head c.args.fitting.fits).1 in
    let l = length-between c.tape_start-tape_at.result c.layout_start-layout_at.result c.args.bytes.now (omega (arith, c.layout_start-layout_at.ensures, c.requires)) in
    omega (arith, l, w.tape.stored, c.tape_start-tape_at.ensures, c.layout_start-layout_at.ensures, length-replicate {A = ℕ} 262145 0)

pub slice_bounds-calls_agree-end : goal.slice_bounds-calls_agree-end
slice_bounds-calls_agree-end c = sym (length-take-le _ c.copy_to_front.new.space (omega (arith, (within_limits c.args.fitting.head c.args.fitting.fits).1.text.whole, c.length-text_end.ensures, c.copy_to_front.auto.space)))

pub slice_bounds-calls_agree-end-2 : goal.slice_bounds-calls_agree-end-2
slice_bounds-calls_agree-end-2 c = sym (length-take-le _ c.copy_to_front-2.new.space (omega (arith, (within_limits c.args.fitting.head c.args.fitting.fits).1.tape.whole, c.length-tape_end.ensures, c.copy_to_front-2.auto.space)))

pub slice_bounds-calls_agree-end-4 : goal.slice_bounds-calls_agree-end-4
slice_bounds-calls_agree-end-4 c = sym (length-take-le c.args.fitting.head.space (replicate 4096 0) (within_limits c.args.fitting.head c.args.fitting.fits).1.space)

pub returns : goal.returns
returns c =
    let bytes = c.args.bytes.now in
    let head = c.args.fitting.head in
    let w = (within_limits head c.args.fitting.fits).1 in
    let inside = c.requires in
    let tape-start = c.tape_start-tape_at.ensures in
    let layout-start = c.layout_start-layout_at.ensures in
    let text-end = c.length-text_end.ensures in
    let tape-end = c.length-tape_end.ensures in
    record_agrees-of bytes head
    (run-copied bytes head.text.zeros 262145 c.length-text_end.result 72 72 c.tape_start-tape_at.result (tape_start head) refl tape-start (omega arith) (omega arith) (omega (arith, w.text.whole)) c.copy_to_front.ensures)
    (run-copied bytes head.tape.zeros 262145 c.length-tape_end.result c.tape_start-tape_at.result (tape_start head) c.layout_start-layout_at.result (layout_start head) tape-start layout-start (omega arith) (omega arith) (omega (arith, w.tape.whole)) c.copy_to_front-2.ensures)
    (between-same bytes _ (layout_start head) _ (record_end head) layout-start c.end-end.ensures)
    (length-take-le head.space (replicate 4096 0) w.space)
    c.calls_agree.ensures
