-- `query_list_before` meets its contract.
use native.Mathlib.Omega.{arith}
use Rattle.tokens.proofs.Runs.{both, did-newline, no_spacing, spaced}
use Rattle.layout.specs.Routines.{format_query_list}
use Rattle.clauses.proofs.query_list_before.Goals as goal

pub returns-then-local : goal.returns-then-local
unfolding format_query_list
returns-then-local c = spaced 2 _ (omega arith) (rw c.if-local.true) no_spacing

pub returns-else-local : goal.returns-else-local
unfolding format_query_list
returns-else-local c = spaced 2 _ (omega arith) (rw c.if-local.false) (both (did-newline c.write_newline.ensures) (did-newline c.write_newline-else-local.ensures))
