-- What `report_from` answers lies within the output buffer.
use Rattle.std.proofs.Common.{sym, length-take-le}
use Rattle.book.proofs.Looping.{put-within}
use Rattle.report.proofs.main.Goals as goal

pub slice_bounds-out-end : goal.slice_bounds-out-end
slice_bounds-out-end c = put-within _ _ _ _ _ _ c.report_from-done.ensures

pub slice_bounds-write_all-end : goal.slice_bounds-write_all-end
slice_bounds-write_all-end c = sym (length-take-le _ _ (put-within _ _ _ _ _ _ c.report_from-done.ensures))
