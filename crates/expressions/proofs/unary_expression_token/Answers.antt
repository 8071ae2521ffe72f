-- `unary_expression_token` meets its contract.
use native.Mathlib.Omega.{arith}
use borrow.Author.Tests.{ne_eqb}
use Rattle.layout.specs.Arms.{minus}
use Rattle.layout.specs.Routines.{unary_token}
use Rattle.layout.specs.Tokens.{emit_other}
use Rattle.tokens.proofs.Runs.{acted, as_acts, did-sign, did-space, then}
use Rattle.expressions.proofs.unary_expression_token.Goals as goal

pub returns-then-token-eq-BARE_WORD : goal.returns-then-token-eq-BARE_WORD
unfolding unary_token
returns-then-token-eq-BARE_WORD c = acted 4 _ (omega arith) (rw c.if-token-eq-BARE_WORD.true) (then c.write_word.ensures (as_acts (did-space c.write_space.ensures)))

pub returns-then-token-eq-MINUS : goal.returns-then-token-eq-MINUS
unfolding unary_token
returns-then-token-eq-MINUS c = acted 4 _ (omega arith) (rw c.if-token-eq-MINUS.true) (did-sign minus c.write_sign.ensures)

pub returns : goal.returns
unfolding unary_token emit_other
returns c = acted 4 _ (omega arith) (rw (ne_eqb _ _ c.if-token-eq-BARE_WORD.false, ne_eqb _ _ c.if-token-eq-MINUS.false)) c.emit_other.ensures
