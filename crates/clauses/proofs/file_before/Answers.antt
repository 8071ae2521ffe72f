-- `file_before` meets its contract.
use native.Mathlib.Omega.{arith}
use Rattle.tokens.proofs.Runs.{both, did-newline, spaced}
use Rattle.layout.specs.Routines.{format_file}
use Rattle.clauses.proofs.file_before.Goals as goal

pub returns-then-local : goal.returns-then-local
unfolding format_file
returns-then-local c = spaced 2 _ (omega arith) (rw c.if-local.true) (both (did-newline c.write_newline.ensures) (did-newline c.write_newline-then-local.ensures))

pub returns-else-local : goal.returns-else-local
unfolding format_file
returns-else-local c = spaced 2 _ (omega arith) (rw c.if-local.false) c.blank_line.ensures
