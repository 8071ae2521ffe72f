-- What `print_job` answers lies within the output buffer.
use Rattle.std.proofs.Common.{sym, length-take-le}
use Rattle.desk_job.proofs.Writing.{within}
use Rattle.desk.proofs.main.Goals as goal

pub slice_bounds-out-end : goal.slice_bounds-out-end
slice_bounds-out-end c = within _ _ _ c.print_job-n.ensures

pub slice_bounds-write_all-end : goal.slice_bounds-write_all-end
slice_bounds-write_all-end c = sym (length-take-le _ _ (within _ _ _ c.print_job-n.ensures))
