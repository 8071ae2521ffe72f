-- `emit_trivia` meets its contract.
use native.Mathlib.Omega.{arith}
use Rattle.tokens.proofs.Runs.{acted, noted}
use Rattle.tokens.proofs.emit_trivia.Goals as goal

pub returns-then-token-eq-WHITESPACE : goal.returns-then-token-eq-WHITESPACE
returns-then-token-eq-WHITESPACE c = acted 3 _ (omega arith) (rw c.if-token-eq-WHITESPACE.true) (noted _ c.note_skipped_whitespace.ensures)
