-- `file_token` meets its contract.
use native.Mathlib.Omega.{arith}
use borrow.Author.Tests.{ne_eqb}
use Rattle.layout.specs.Arms.{semicolon}
use Rattle.tokens.proofs.Runs.{acted, as_acts, did-sign, then}
use Rattle.layout.specs.Routines.{file_token}
use Rattle.layout.specs.Tokens.{emit_other}
use Rattle.clauses.proofs.file_token.Goals as goal

pub returns-then-token-eq-COMMENT : goal.returns-then-token-eq-COMMENT
unfolding file_token
returns-then-token-eq-COMMENT c = acted 4 _ (omega arith) (rw c.if-token-eq-COMMENT.true) (then (as_acts c.blank_line_before_comment-a.ensures) c.emit_comment.ensures)

pub returns-then-token-eq-SEMICOLON : goal.returns-then-token-eq-SEMICOLON
unfolding file_token
returns-then-token-eq-SEMICOLON c = acted 4 _ (omega arith) (rw c.if-token-eq-SEMICOLON.true) (did-sign semicolon c.write_sign.ensures)

pub returns : goal.returns
unfolding file_token emit_other
returns c = acted 4 _ (omega arith) (rw (ne_eqb _ _ c.if-token-eq-COMMENT.false, ne_eqb _ _ c.if-token-eq-SEMICOLON.false)) c.emit_other.ensures
