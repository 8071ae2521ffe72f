-- `passthrough_token` meets its contract.
use native.Mathlib.Omega.{arith}
use borrow.Author.Tests.{ne_eqb}
use Rattle.layout.specs.Routines.{passthrough_token}
use Rattle.layout.specs.Tokens.{emit_other}
use Rattle.tokens.proofs.Runs.{acted, as_acts, did-space, noted, then}
use Rattle.expressions.proofs.passthrough_token.Goals as goal

pub returns-then-token-eq-WHITESPACE : goal.returns-then-token-eq-WHITESPACE
unfolding passthrough_token
returns-then-token-eq-WHITESPACE c = acted 4 _ (omega arith) (rw c.if-token-eq-WHITESPACE.true) (then (noted _ c.note_skipped_whitespace.ensures) (as_acts (did-space c.write_space.ensures)))

pub returns : goal.returns
unfolding passthrough_token emit_other
returns c = acted 4 _ (omega arith) (rw (ne_eqb _ _ c.if-token-eq-WHITESPACE.false)) c.emit_other.ensures
