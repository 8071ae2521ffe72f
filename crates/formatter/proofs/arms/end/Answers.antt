-- `end` meets its contract.
use mathlib.Core.Path.{sym}
use Rattle.formatter.specs.KnownArms.{known_arms}
use Rattle.layout.specs.Routines.{list_clause_arms}
use Rattle.tokens.proofs.Choices.{no_unwritten, unwritten_as}
use Rattle.formatter.proofs.KnownArms.{no_end}
use Rattle.formatter.proofs.arms.end.Goals as goal

pub returns-in-ListClause : goal.returns-in-ListClause
unfolding known_arms list_clause_arms
returns-in-ListClause c = rw c.in-ListClause.is c.list_clause_end.ensures

pub returns-in_default : goal.returns-in_default
returns-in_default c = unwritten_as _ (sym (no_end c.args.routine c.in_default.not-ListClause c.args.multi c.args.local)) no_unwritten
