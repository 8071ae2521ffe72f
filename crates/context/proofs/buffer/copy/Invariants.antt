-- `context::buffer::copy` meets its contract: after i passes the first i bytes of the text are laid over the front.
use mathlib.Core.Path.{◌≡◌}
use lib.ListN.{length, take}
use Rattle.context.specs.Splice.{splice}
use Rattle.context.proofs.buffer.copy.Given as goal

abbrev pub invariant-loop-i : goal.invariant-loop-i
invariant-loop-i l = (l.b-items ≡ splice 0 (take l.i l.text) l.initial.b-items) × (length l.b-items ≡ length l.initial.b-items)
