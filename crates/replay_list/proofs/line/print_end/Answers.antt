-- `print_end` meets its contract: writes in a row are one.
use borrow.Author.Rules.{rules}
use Rattle.desk_job.proofs.Writing.{puts_all, puts_then}
use Rattle.replay_list.specs.Line.{end_line}
use Rattle.replay_list.proofs.line.print_end.Goals as goal
use Rattle.replay_list.proofs.line.print_end.Goals.{in-Some, in_default}

pub returns : goal.returns
unfolding end_line
returns c =
    let d = puts_then (puts_then (puts_then c.put_decimal.ensures c.put_all.ensures) c.put_decimal-2.ensures) c.put_all-2.ensures in
    elim c.match-first.branch [
      | in-Some w ↦
          rw w.in-Some.is
          (puts_all c.new-writer.ensures.end c.new-writer.ensures.space
          (puts_then d (puts_then (puts_then w.put_all-in-Some.ensures w.put_decimal-in-Some.ensures) (rw w.writer-is at c.put_all-3.ensures))) c.end.ensures (search rules))
      | in_default w ↦
          rw w.in_default.is
          (puts_all c.new-writer.ensures.end c.new-writer.ensures.space (puts_then d (rw w.writer-is at c.put_all-3.ensures)) c.end.ensures (search rules))
    ]
