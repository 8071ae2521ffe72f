-- `begin` meets its contract.
use mathlib.Core.Path.{◌∙◌}
use Rattle.formatter.proofs.KnownArms.{begins, begins_first}
use Rattle.formatter.proofs.arms.begin.Goals as goal

pub returns-in-QueryList : goal.returns-in-QueryList
returns-in-QueryList c = λ multi. c.flagged.ensures ∙ begins_first c.in-QueryList.is multi

pub returns-in_default : goal.returns-in_default
returns-in_default c = λ multi. c.flagged-in_default.ensures ∙ begins c.args.routine c.in_default.not-QueryList c.in_default.not-SelectStatement multi
