-- `subquery_token` meets its contract.
use native.Mathlib.Omega.{arith}
use borrow.Author.Tests.{ne_eqb}
use Rattle.layout.specs.Arms.{opening_round_bracket, closing_round_bracket}
use Rattle.layout.specs.Routines.{subquery_token}
use Rattle.layout.specs.Tokens.{emit_other}
use Rattle.tokens.proofs.Runs.{acted, as_acts, did-dedent, did-indent, did-newline, did-sign, then}
use Rattle.expressions.proofs.subquery_token.Goals as goal

pub returns-then-token-eq-OPENING_ROUND_BRACKET : goal.returns-then-token-eq-OPENING_ROUND_BRACKET
unfolding subquery_token
returns-then-token-eq-OPENING_ROUND_BRACKET c =
    acted 4 _ (omega arith) (rw c.if-token-eq-OPENING_ROUND_BRACKET.true)
    (then (did-sign opening_round_bracket c.write_sign.ensures) (then (as_acts (did-newline c.write_newline.ensures)) (as_acts (did-indent c.indent.ensures))))

pub returns-then-token-eq-CLOSING_ROUND_BRACKET : goal.returns-then-token-eq-CLOSING_ROUND_BRACKET
unfolding subquery_token
returns-then-token-eq-CLOSING_ROUND_BRACKET c =
    acted 4 _ (omega arith) (rw c.if-token-eq-CLOSING_ROUND_BRACKET.true)
    (then (as_acts (did-dedent c.dedent.ensures)) (then (as_acts (did-newline c.write_newline-then-token-eq-CLOSING_ROUND_BRACKET.ensures)) (did-sign closing_round_bracket c.write_sign-then-token-eq-CLOSING_ROUND_BRACKET.ensures)))

pub returns : goal.returns
unfolding subquery_token emit_other
returns c = acted 4 _ (omega arith) (rw (ne_eqb _ _ c.if-token-eq-OPENING_ROUND_BRACKET.false, ne_eqb _ _ c.if-token-eq-CLOSING_ROUND_BRACKET.false)) c.emit_other.ensures
