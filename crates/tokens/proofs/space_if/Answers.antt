-- `space_if` meets its contract.
use Rattle.tokens.proofs.Runs.{unwritten-space}
use Rattle.tokens.proofs.space_if.Goals as goal

pub returns-then-wanted : goal.returns-then-wanted
returns-then-wanted c = rw c.if-wanted.true (unwritten-space c.write_space.ensures)
