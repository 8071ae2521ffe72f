-- `select_statement_before` meets its contract.
use Rattle.layout.specs.Routines.{format_select_statement}
use Rattle.clauses.proofs.select_statement_before.Goals as goal

pub returns : goal.returns
unfolding format_select_statement
returns c = c.newline_if.ensures
