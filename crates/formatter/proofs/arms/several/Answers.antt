-- `several` meets its contract.
use Rattle.formatter.specs.KnownArms.{noted_several}
use Rattle.tape.specs.NodeFacts.{facts_at}
use Rattle.formatter.proofs.KnownArms.{asks_nothing}
use Rattle.formatter.proofs.arms.several.Goals as goal

pub returns-in-ListClause : goal.returns-in-ListClause
unfolding noted_several
returns-in-ListClause c = rw c.in-ListClause.is c.several_items.ensures

pub returns-in_default : goal.returns-in_default
returns-in_default c = asks_nothing c.args.routine c.in_default.not-ListClause c.args.kind (facts_at c.args.facts.facts.now c.args.facts.at)
