-- `copy_front` meets its contract. The invariant: the numbers passed are those of the notes.
use mathlib.Core.Path.{◌≡◌}
use lib.ListN.{length, take}
use Rattle.token_map.proofs.copy_front.Given as goal

abbrev pub invariant-loop-i : goal.invariant-loop-i
invariant-loop-i l = (take l.i l.map ≡ take l.i l.notes) × (length l.map ≡ length l.initial.map)
