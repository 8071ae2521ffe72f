-- The loop over a node's children, and the measures of the loop and the dispatch: twice the levels left, one more for the dispatch.
use Prim.Native.Nat.{◌*◌, ◌+◌, ◌-◌}
use lib.ListN.{length}
use Rattle.formatter.proofs.Walks.{Loop}
use Rattle.formatter.specs.KnownArms.{known_arms}
use Rattle.layout.specs.FormatNode.{arms_of}
use Rattle.formatter.proofs.format.+routines.Given as goal

abbrev pub decreases-children : goal.decreases-children
decreases-children l = 2 * l.left

abbrev pub decreases-node : goal.decreases-node
decreases-node l = 2 * l.left + 1

abbrev pub invariant-children-loop-i : goal.invariant-children-loop-i
invariant-children-loop-i l = Loop l.source l.tape l.facts l.settings.config l.left l.at (arms_of l.routine) (known_arms l.routine l.multi) l.initial.ctx l.initial.out l.out l.initial.map l.map l.i l.ctx l.local

abbrev pub decreases-children-loop-i : goal.decreases-children-loop-i
decreases-children-loop-i l = length l.tape - l.i
