-- `write_layout` meets its contract.
use native.Mathlib.Omega.{arith}
use mathlib.Core.Path.{sym}
use lib.Seq.{length-take-le}
use Rattle.formatter.proofs.Entries.{fills}
use Rattle.formatter.proofs.Accepted.write_layout.Goals as goal

pub slice_bounds-walk_tree-end-2 : goal.slice_bounds-walk_tree-end-2
slice_bounds-walk_tree-end-2 c = let a = c.args in sym (length-take-le a.k a.out.now (omega (arith, c.requires.trims.2)))

pub returns : goal.returns
returns c = let a = c.args in let p = c.requires in record { fills = fills a.k p.trims.0 p.trims.1 p.trims.2 c.walk_tree.ensures; notes = c.walk_tree.ensures.notes }
