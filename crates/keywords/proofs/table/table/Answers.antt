-- `table` meets its contract: the table is the list, by one computed test.
use mathlib.Core.Path.{refl}
use Rattle.keywords.specs.Names.{names}
use Rattle.keywords.specs.Words.{words}
use Rattle.keywords.specs.Table as spec
use Rattle.keywords.specs.Table.{flat}
use Rattle.keywords.proofs.table.table.Goals as goal

pub returns : goal.returns
unfolding spec.table flat words names
returns c = refl
