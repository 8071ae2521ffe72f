-- `trimmed_from_end` meets its contract: what lies from n on is white space.
use Prim.Native.Nat.{◌≤◌}
use mathlib.Core.Path.{◌≡◌}
use lib.ListN.{length, take}
use Rattle.utf8.specs.Trimming.{trimmed_length}
use Rattle.utf8.proofs.trimmed_from_end.Given as goal

abbrev pub invariant-loop-k : goal.invariant-loop-k
invariant-loop-k l = (l.n ≤ length l.text) × (trimmed_length l.text ≡ trimmed_length (take l.n l.text))

abbrev pub decreases-loop-k : goal.decreases-loop-k
decreases-loop-k l = l.n
