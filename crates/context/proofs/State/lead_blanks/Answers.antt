-- `context::State::lead_blanks` meets its contract, by the test that leads to each answer.
use native.Mathlib.Omega.{arith}
use native.Mathlib.Nat.{mul-le-mul}
use Rattle.context.specs.Context.{lead}
use Rattle.context.proofs.Bytes.{bytes-blanks}
use Rattle.context.proofs.State.lead_blanks.Goals as goal

pub returns-then-self : goal.returns-then-self
unfolding lead
returns-then-self c = (grind (arith, bytes-blanks), mul-le-mul c.requires.0 c.requires.1)

pub returns-else-self : goal.returns-else-self
unfolding lead
returns-else-self c = (grind arith, grind arith)
