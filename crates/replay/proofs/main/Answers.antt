-- What `print_replayed` answers lies within the line's buffer.
use Rattle.std.proofs.Common.{ℕ, sym, length-take-le}
use lib.ListN.{length-replicate}
use Rattle.desk_job.proofs.Writing.{within}
use Rattle.replay.proofs.main.Goals as goal

pub slice_bounds-read_input-end : goal.slice_bounds-read_input-end
slice_bounds-read_input-end c = sym (length-replicate {A = ℕ} 1048576 0)

pub slice_bounds-list-end : goal.slice_bounds-list-end
slice_bounds-list-end c = c.read_input-read.ensures.within

pub slice_bounds-print_replayed-end : goal.slice_bounds-print_replayed-end
slice_bounds-print_replayed-end c = c.read_input-read.ensures.prefix

pub slice_bounds-line-end : goal.slice_bounds-line-end
slice_bounds-line-end c = within _ _ _ c.print_replayed-n.ensures

pub slice_bounds-write_all-end : goal.slice_bounds-write_all-end
slice_bounds-write_all-end c = sym (length-take-le _ _ (within _ _ _ c.print_replayed-n.ensures))
