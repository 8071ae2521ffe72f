-- `inline_comma_list_token` meets its contract.
use native.Mathlib.Omega.{arith}
use borrow.Author.Tests.{ne_eqb}
use Rattle.layout.specs.Arms.{comma}
use Rattle.layout.specs.Routines.{inline_comma_list_token}
use Rattle.layout.specs.Tokens.{emit_other}
use Rattle.tokens.proofs.Runs.{acted, as_acts, did-sign, did-space, then}
use Rattle.expressions.proofs.inline_comma_list_token.Goals as goal

pub returns-then-token-eq-COMMA : goal.returns-then-token-eq-COMMA
unfolding inline_comma_list_token
returns-then-token-eq-COMMA c = acted 4 _ (omega arith) (rw c.if-token-eq-COMMA.true) (then (did-sign comma c.write_sign.ensures) (as_acts (did-space c.write_space.ensures)))

pub returns : goal.returns
unfolding inline_comma_list_token emit_other
returns c = acted 4 _ (omega arith) (rw (ne_eqb _ _ c.if-token-eq-COMMA.false)) c.emit_other.ensures
