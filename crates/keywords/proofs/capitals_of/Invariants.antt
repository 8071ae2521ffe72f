-- `capitals_of` meets its contract. The invariant: the letters passed are the word's, in upper case.
use mathlib.Core.Path.{◌≡◌}
use mathlib.Core.List.{◌++◌, map}
use lib.ListN.{length, take, drop}
use Rattle.std.specs.Char.{to_ascii_uppercase}
use Rattle.keywords.proofs.capitals_of.Given as goal

abbrev pub invariant-loop-i : goal.invariant-loop-i
invariant-loop-i l = (l.letter-items ≡ take l.i (map to_ascii_uppercase l.word) ++ drop l.i l.initial.letter-items) × (length l.letter-items ≡ length l.initial.letter-items)
