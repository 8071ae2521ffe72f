-- `case_expression_token` meets its contract.
use native.Mathlib.Omega.{arith}
use borrow.Author.Tests.{ne_eqb}
use Rattle.layout.specs.Routines.{case_token}
use Rattle.layout.specs.Tokens.{emit_other}
use Rattle.tokens.proofs.Runs.{acted}
use Rattle.expressions.proofs.case_expression_token.Goals as goal

pub returns-then-token-eq-BARE_WORD : goal.returns-then-token-eq-BARE_WORD
unfolding case_token
returns-then-token-eq-BARE_WORD c = acted 4 _ (omega arith) (rw c.if-token-eq-BARE_WORD.true) c.case_word.ensures

pub returns : goal.returns
unfolding case_token emit_other
returns c = acted 4 _ (omega arith) (rw (ne_eqb _ _ c.if-token-eq-BARE_WORD.false)) c.emit_other.ensures
