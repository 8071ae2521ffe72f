-- `alter_command_list_token` meets its contract.
use native.Mathlib.Omega.{arith}
use borrow.Author.Tests.{ne_eqb}
use Rattle.layout.specs.Arms.{comma}
use Rattle.layout.specs.Routines.{alter_command_list_token}
use Rattle.tokens.specs.TokenPromises.{emit_uncommented}
use Rattle.tokens.proofs.Runs.{acted, as_acts, did-newline, did-sign, then}
use Rattle.expressions.proofs.alter_command_list_token.Goals as goal

pub returns-then-token-eq-COMMA : goal.returns-then-token-eq-COMMA
unfolding alter_command_list_token
returns-then-token-eq-COMMA c = acted 4 _ (omega arith) (rw c.if-token-eq-COMMA.true) (then (did-sign comma c.write_sign.ensures) (as_acts (did-newline c.write_newline.ensures)))

pub returns : goal.returns
unfolding alter_command_list_token emit_uncommented
returns c = acted 4 _ (omega arith) (rw (ne_eqb _ _ c.if-token-eq-COMMA.false)) c.emit_uncommented.ensures
