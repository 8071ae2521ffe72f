-- `check` meets its contract. The loop's invariant is `Checking`, the measure what is left of the tape; each exit and each pass is one law of `CheckSteps`.
use Prim.Native.Nat.{◌-◌}
use lib.ListN.{length}
use Rattle.std.specs.Prelude.{reverse}
use Rattle.tape.specs.Tape.{tests_of}
use Rattle.tape.proofs.CheckSteps.{Checking}
use Rattle.tape.proofs.check.check.Given as goal

abbrev pub invariant-loop-at : goal.invariant-loop-at
invariant-loop-at l = Checking (tests_of l.text.text.now) l.tape l.initial.facts (reverse l.open.items) l.at l.facts

abbrev pub decreases-loop-at : goal.decreases-loop-at
decreases-loop-at l = length l.tape - l.at
