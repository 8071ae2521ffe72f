-- `function_call_token` meets its contract.
use native.Mathlib.Omega.{arith}
use borrow.Author.Tests.{ne_eqb}
use Rattle.layout.specs.Arms.{opening_round_bracket, closing_round_bracket}
use Rattle.layout.specs.Routines.{function_call_token}
use Rattle.layout.specs.Tokens.{emit_other}
use Rattle.tokens.proofs.Runs.{acted, did-sign}
use Rattle.expressions.proofs.function_call_token.Goals as goal

pub returns-then-token-eq-OPENING_ROUND_BRACKET : goal.returns-then-token-eq-OPENING_ROUND_BRACKET
unfolding function_call_token
returns-then-token-eq-OPENING_ROUND_BRACKET c = acted 4 _ (omega arith) (rw c.if-token-eq-OPENING_ROUND_BRACKET.true) (did-sign opening_round_bracket c.write_sign.ensures)

pub returns-then-token-eq-CLOSING_ROUND_BRACKET : goal.returns-then-token-eq-CLOSING_ROUND_BRACKET
unfolding function_call_token
returns-then-token-eq-CLOSING_ROUND_BRACKET c = acted 4 _ (omega arith) (rw c.if-token-eq-CLOSING_ROUND_BRACKET.true) (did-sign closing_round_bracket c.write_sign-then-token-eq-CLOSING_ROUND_BRACKET.ensures)

pub returns-then-token-eq-BARE_WORD : goal.returns-then-token-eq-BARE_WORD
unfolding function_call_token
returns-then-token-eq-BARE_WORD c = acted 4 _ (omega arith) (rw c.if-token-eq-BARE_WORD.true) c.write_text.ensures

pub returns : goal.returns
unfolding function_call_token emit_other
returns c = acted 4 _ (omega arith) (rw (ne_eqb _ _ c.if-token-eq-OPENING_ROUND_BRACKET.false, ne_eqb _ _ c.if-token-eq-CLOSING_ROUND_BRACKET.false, ne_eqb _ _ c.if-token-eq-BARE_WORD.false)) c.emit_other.ensures
