-- `context::buffer::copy_in_case` meets its contract: after i passes the first i bytes of the text, in the asked case, are laid over the front.
use mathlib.Core.Path.{◌≡◌}
use mathlib.Core.List.{map}
use lib.ListN.{length, take}
use Rattle.context.specs.Splice.{splice}
use Rattle.context.specs.Cells.{to_case}
use Rattle.context.proofs.buffer.copy_in_case.Given as goal

abbrev pub invariant-loop-i : goal.invariant-loop-i
invariant-loop-i l = (l.b-items ≡ splice 0 (take l.i (map (to_case l.uppercase) l.text)) l.initial.b-items) × (length l.b-items ≡ length l.initial.b-items)
