-- `query_list_token` meets its contract.
use native.Mathlib.Omega.{arith}
use borrow.Author.Tests.{ne_eqb}
use Rattle.layout.specs.Arms.{semicolon}
use Rattle.tokens.proofs.Runs.{acted, did-sign}
use Rattle.layout.specs.Routines.{query_list_token}
use Rattle.layout.specs.Tokens.{emit_other}
use Rattle.clauses.proofs.query_list_token.Goals as goal

pub returns-then-token-eq-SEMICOLON : goal.returns-then-token-eq-SEMICOLON
unfolding query_list_token
returns-then-token-eq-SEMICOLON c = acted 4 _ (omega arith) (rw c.if-token-eq-SEMICOLON.true) (did-sign semicolon c.write_sign.ensures)

pub returns : goal.returns
unfolding query_list_token emit_other
returns c = acted 4 _ (omega arith) (rw (ne_eqb _ _ c.if-token-eq-SEMICOLON.false)) c.emit_other.ensures
