-- `newline_if` meets its contract.
use Rattle.tokens.proofs.Runs.{did-newline}
use Rattle.tokens.proofs.newline_if.Goals as goal

pub returns-then-wanted : goal.returns-then-wanted
returns-then-wanted c = rw c.if-wanted.true (did-newline c.write_newline.ensures)
