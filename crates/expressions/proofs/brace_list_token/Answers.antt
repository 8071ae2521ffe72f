-- `brace_list_token` meets its contract.
use native.Mathlib.Omega.{arith}
use borrow.Author.Tests.{ne_eqb}
use Rattle.layout.specs.Arms.{colon}
use Rattle.layout.specs.Routines.{brace_list_token}
use Rattle.tokens.proofs.Runs.{acted, as_acts, did-sign, did-space, then}
use Rattle.expressions.proofs.brace_list_token.Goals as goal

pub returns-then-token-eq-COLON : goal.returns-then-token-eq-COLON
unfolding brace_list_token
returns-then-token-eq-COLON c = acted 4 _ (omega arith) (rw c.if-token-eq-COLON.true) (then (did-sign colon c.write_sign.ensures) (as_acts (did-space c.write_space.ensures)))

pub returns : goal.returns
unfolding brace_list_token
returns c = acted 4 _ (omega arith) (rw (ne_eqb _ _ c.if-token-eq-COLON.false)) c.list_token.ensures
