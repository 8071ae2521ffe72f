-- `binary_expression_token` meets its contract.
use native.Mathlib.Omega.{arith}
use mathlib.Core.Path.{◌∙◌, sym}
use borrow.Author.Tests.{ne_eqb}
use Rattle.layout.specs.Routines.{binary_token}
use Rattle.layout.specs.Tokens.{emit_other}
use Rattle.tokens.proofs.Choices.{operator_acts}
use Rattle.tokens.proofs.Runs.{acted, as_acts, did-space, then}
use Rattle.expressions.proofs.binary_expression_token.Goals as goal

pub returns-then-token-eq-BARE_WORD : goal.returns-then-token-eq-BARE_WORD
unfolding binary_token
returns-then-token-eq-BARE_WORD c = acted 4 _ (omega arith) (rw c.if-token-eq-BARE_WORD.true) (then (as_acts (did-space c.write_space.ensures)) (then c.write_word.ensures (as_acts (did-space c.write_space-then-token-eq-BARE_WORD.ensures))))

pub returns-then-is_operator : goal.returns-then-is_operator
returns-then-is_operator c = acted 4 _ (omega arith) (operator_acts _ _ (sym c.is_operator.ensures ∙ c.if-is_operator.true)) (then (as_acts (did-space c.write_space-then-is_operator.ensures)) (then c.write_text.ensures (as_acts (did-space c.write_space-then-is_operator-2.ensures))))

pub returns : goal.returns
unfolding binary_token emit_other
returns c = acted 4 _ (omega arith) (rw (ne_eqb _ _ c.if-token-eq-BARE_WORD.false, sym c.is_operator.ensures ∙ c.if-is_operator.false)) c.emit_other.ensures
