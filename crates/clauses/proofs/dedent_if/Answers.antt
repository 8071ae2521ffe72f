-- `dedent_if` meets its contract.
use Rattle.tokens.proofs.Runs.{unwritten-dedent}
use Rattle.clauses.proofs.dedent_if.Goals as goal

pub returns-then-wanted : goal.returns-then-wanted
returns-then-wanted c = rw c.if-wanted.true (unwritten-dedent c.dedent.ensures)
