-- `select_statement_token` meets its contract.
use native.Mathlib.Omega.{arith}
use borrow.Author.Tests.{ne_eqb}
use Rattle.tokens.proofs.Runs.{acted, no_acts}
use Rattle.layout.specs.Routines.{select_statement_token}
use Rattle.layout.specs.Tokens.{emit_other}
use Rattle.clauses.proofs.select_statement_token.Goals as goal

pub returns-then-token-eq-SEMICOLON : goal.returns-then-token-eq-SEMICOLON
unfolding select_statement_token
returns-then-token-eq-SEMICOLON c = acted 4 _ (omega arith) (rw c.if-token-eq-SEMICOLON.true) no_acts

pub returns : goal.returns
unfolding select_statement_token emit_other
returns c = acted 4 _ (omega arith) (rw (ne_eqb _ _ c.if-token-eq-SEMICOLON.false)) c.emit_other.ensures
