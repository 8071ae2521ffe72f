-- `after` meets its contract.
use mathlib.Core.Path.{ap, sym}
use mathlib.Core.List.{List}
use Rattle.layout.specs.declared.Local.{Local}
use Rattle.layout.specs.Arms.{Spacing}
use Rattle.layout.specs.FormatNode.{arms_of}
use Rattle.formatter.specs.KnownArms.{counted, known_arms}
use Rattle.layout.specs.Routines.{format_select_clause, format_settings_clause, format_with_clause, list_clause_arms}
use Rattle.tokens.proofs.Choices.{no_unwritten, unwritten_as}
use Rattle.formatter.proofs.KnownArms.{listed_node, unfollowed}
use Rattle.formatter.proofs.arms.after.Goals as goal

pub returns-in-SelectClause : goal.returns-in-SelectClause
unfolding known_arms arms_of format_select_clause
returns-in-SelectClause c = λ multi. rw c.in-SelectClause.is (c.select_clause_after.ensures c.args.local)

pub returns-in-ListClause : goal.returns-in-ListClause
unfolding known_arms list_clause_arms
returns-in-ListClause c = λ multi. rw c.in-ListClause.is (unwritten_as _ (ap (λ (x : Local × List Spacing × List Spacing). x.2) (listed_node c.in-ListClause.list multi c.args.local c.args.kind c.args.several)) c.list_clause_after.ensures)

pub returns-in-SettingsClause : goal.returns-in-SettingsClause
unfolding known_arms arms_of format_settings_clause
returns-in-SettingsClause c = λ multi. rw c.in-SettingsClause.is (c.settings_clause_after.ensures c.args.local)

pub returns-in-WithClause : goal.returns-in-WithClause
unfolding known_arms arms_of format_with_clause
returns-in-WithClause c = λ multi. rw c.in-WithClause.is c.with_clause_after.ensures

pub returns-in_default : goal.returns-in_default
returns-in_default c = λ multi. unwritten_as _ (sym (unfollowed c.args.routine c.in_default.not-SelectClause c.in_default.not-ListClause c.in_default.not-SettingsClause c.in_default.not-WithClause multi c.args.local c.args.kind (counted c.args.several))) no_unwritten
