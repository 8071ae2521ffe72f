-- `replay_record` meets its contract: a record that fits is compared where it is whole.
use mathlib.Core.Path.{sym}
use native.Mathlib.Omega.{arith}
use Rattle.replay_list.proofs.Replaying.{cut-in_run, record_compared}
use Rattle.replay_list.proofs.replay.replay_record.Goals as goal

pub returns-then-bytes-end : goal.returns-then-bytes-end
returns-then-bytes-end c =
    let f = c.in_ok-fitting in
    sym (cut-in_run c.args.bytes.now f.fitting.head f.ensures.1 f.ensures.0 f.fitting.fits (omega (arith, c.if-bytes-end.true, c.end-end.ensures)))

pub record_agrees-agreed-requires : goal.record_agrees-agreed-requires
record_agrees-agreed-requires c = omega (arith, c.if-bytes-end.false, c.end-end.ensures)

pub returns : goal.returns
returns c =
    let f = c.in_ok-fitting in
    record_compared c.args.bytes.now f.fitting.head f.ensures.1 f.ensures.0 f.fitting.fits _ _ c.record_agrees-agreed.ensures c.end-end.ensures c.if-bytes-end.false
