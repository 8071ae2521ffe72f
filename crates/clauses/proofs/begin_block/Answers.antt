-- `begin_block` meets its contract.
use native.Mathlib.Omega.{arith}
use mathlib.Core.Path.{refl}
use Rattle.tokens.proofs.Runs.{both, did-indent, did-newline, spaced}
use Rattle.clauses.proofs.begin_block.Goals as goal

pub returns : goal.returns
returns c = spaced 2 _ (omega arith) refl (both (did-newline c.write_newline.ensures) (did-indent c.indent.ensures))
