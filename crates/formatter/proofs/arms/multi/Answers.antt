-- `multi` meets its contract.
use Rattle.formatter.specs.KnownArms.{noted_multi}
use Rattle.tape.specs.NodeFacts.{facts_at}
use Rattle.formatter.proofs.KnownArms.{looks_at_nothing}
use Rattle.formatter.proofs.arms.multi.Goals as goal

pub returns-in-ListClause : goal.returns-in-ListClause
unfolding noted_multi
returns-in-ListClause c = rw c.in-ListClause.is c.multi_item.ensures

pub returns-in_default : goal.returns-in_default
returns-in_default c = looks_at_nothing c.args.routine c.in_default.not-ListClause (facts_at c.args.facts.facts.now c.args.facts.at)
