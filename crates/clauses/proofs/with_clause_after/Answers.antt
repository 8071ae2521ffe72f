-- `with_clause_after` meets its contract.
use Rattle.tokens.proofs.Runs.{unwritten-dedent}
use Rattle.clauses.proofs.with_clause_after.Goals as goal

pub returns : goal.returns
returns c = unwritten-dedent c.dedent.ensures
