-- `open_book` meets its contract: behind so many jobs the walk is the one that allows that many fewer than 256.
use mathlib.Core.Path.{◌≡◌}
use Prim.Native.Nat.{◌-◌, ◌≤◌}
use lib.ListN.{length}
use Rattle.book.specs.Book.{walk}
use Rattle.book.proofs.open.open_book.Given as goal

abbrev pub invariant-loop-at : goal.invariant-loop-at
invariant-loop-at l = (walk (256 - l.jobs) l.book l.at l.jobs ≡ walk 256 l.book 0 0) × ((l.jobs ≤ 256) × (l.at ≤ length l.book))

abbrev pub decreases-loop-at : goal.decreases-loop-at
decreases-loop-at l = length l.book - l.at
