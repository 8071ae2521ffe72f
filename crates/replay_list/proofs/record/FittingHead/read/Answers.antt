-- `read` meets its contract: without a head that fits, the record is broken.
use Rattle.desk_job.proofs.HeaderReading.{answered-false}
use Rattle.replay_list.proofs.Replaying.{cut-in_head, over_limit}
use Rattle.replay_list.proofs.record.FittingHead.read.Goals as goal

pub returns-then-bytes-lt72 : goal.returns-then-bytes-lt72
returns-then-bytes-lt72 c = cut-in_head c.args.bytes.now c.if-bytes-lt72.true

pub returns-then-not-fits : goal.returns-then-not-fits
returns-then-not-fits c = over_limit c.args.bytes.now _ c.read_head-head.ensures c.if-bytes-lt72.false (answered-false c.fits.ensures c.if-not-fits.true)
