-- `emit_uncommented` meets its contract.
use native.Mathlib.Omega.{arith}
use borrow.Author.Tests.{ne_eqb}
use Rattle.tokens.proofs.Choices.{uncommented_comment, uncommented_other}
use Rattle.tokens.proofs.Runs.{acted}
use Rattle.tokens.proofs.emit_uncommented.Goals as goal

pub returns-then-token-eq-COMMENT : goal.returns-then-token-eq-COMMENT
returns-then-token-eq-COMMENT c = acted 4 _ (omega arith) (uncommented_comment _ _ c.if-token-eq-COMMENT.true) c.emit_token.ensures

pub returns : goal.returns
returns c = acted 4 _ (omega arith) (uncommented_other _ _ (ne_eqb _ _ c.if-token-eq-COMMENT.false)) c.emit_other.ensures
