-- `before` meets its contract. No lemma can stand for several answers: each goal has names of its own for its branch and its call.
use native.Mathlib.Omega.{arith}
use mathlib.Core.Path.{◌∙◌, ap, refl, sym}
use mathlib.Core.Logic.{⊎_elim}
use mathlib.Core.List.{List}
use Rattle.layout.specs.declared.Local.{Local}
use Rattle.layout.specs.Arms.{Spacing}
use Rattle.layout.specs.FormatNode.{arms_of}
use Rattle.formatter.specs.KnownArms.{counted, known_arms}
use Rattle.layout.specs.Routines.{format_case_expression, format_comma_list, format_file, format_inline, format_inline_tight_parens, format_join_clause, format_query_list, format_select_clause, format_select_statement, format_settings_clause, format_simple_clause, format_union_clause, format_with_clause, inline_node, list_clause_arms, space_if}
use Rattle.tokens.proofs.Choices.{as_spaced}
use Rattle.tokens.proofs.Runs.{no_spacing, spaced}
use Rattle.formatter.proofs.KnownArms.{listed_node, plain}
use Rattle.formatter.proofs.RoutineLaws.{case-kept, select_kept, settings_kept}
use Rattle.formatter.proofs.arms.before.Goals as goal

pub returns-in-File-clause-before : goal.returns-in-File-clause-before
unfolding known_arms arms_of format_file
returns-in-File-clause-before c = rw c.in-File.is (c.file_before.ensures)

pub returns-in-File-clause-kept : goal.returns-in-File-clause-kept
unfolding known_arms arms_of format_file
returns-in-File-clause-kept c = rw c.in-File.is (c.flagged.ensures)

pub returns-in-QueryList-clause-before : goal.returns-in-QueryList-clause-before
unfolding known_arms arms_of format_query_list
returns-in-QueryList-clause-before c = rw c.in-QueryList.is (c.query_list_before.ensures)

pub returns-in-QueryList-clause-kept : goal.returns-in-QueryList-clause-kept
unfolding known_arms arms_of format_query_list
returns-in-QueryList-clause-kept c = rw c.in-QueryList.is (c.flagged-in-QueryList.ensures)

pub returns-in-SelectStatement-clause-before : goal.returns-in-SelectStatement-clause-before
unfolding known_arms arms_of format_select_statement
returns-in-SelectStatement-clause-before c = rw c.in-SelectStatement.is (spaced 2 _ (omega arith) refl c.select_statement_before.ensures)

pub returns-in-SelectStatement-clause-kept : goal.returns-in-SelectStatement-clause-kept
unfolding known_arms arms_of format_select_statement
returns-in-SelectStatement-clause-kept c = rw c.in-SelectStatement.is (c.flagged-in-SelectStatement.ensures)

pub returns-in-SelectClause-clause-before : goal.returns-in-SelectClause-clause-before
unfolding known_arms arms_of format_select_clause
returns-in-SelectClause-clause-before c = rw c.in-SelectClause.is (c.select_clause_before.ensures c.args.local)

pub returns-in-SelectClause-clause-kept : goal.returns-in-SelectClause-clause-kept
unfolding known_arms arms_of format_select_clause
returns-in-SelectClause-clause-kept c = rw c.in-SelectClause.is (select_kept c.args.local c.args.kind)

pub returns-in-SimpleClause-clause-before : goal.returns-in-SimpleClause-clause-before
unfolding known_arms arms_of format_simple_clause format_join_clause
returns-in-SimpleClause-clause-before c = ⊎_elim (λ e. rw e (spaced 2 _ (omega arith) refl (as_spaced c.space_if.ensures))) (λ e. rw e (spaced 2 _ (omega arith) refl (as_spaced c.space_if.ensures))) c.in-SimpleClause.is

pub returns-in-SimpleClause-clause-kept : goal.returns-in-SimpleClause-clause-kept
unfolding known_arms arms_of format_simple_clause format_join_clause
returns-in-SimpleClause-clause-kept c = ⊎_elim (λ e. rw e (c.flagged-in-SimpleClause.ensures)) (λ e. rw e (c.flagged-in-SimpleClause.ensures)) c.in-SimpleClause.is

pub returns-in-ListClause-clause-before : goal.returns-in-ListClause-clause-before
unfolding known_arms list_clause_arms
returns-in-ListClause-clause-before c = rw c.in-ListClause.is (spaced 2 _ (omega arith) (ap (λ (x : Local × List Spacing × List Spacing). x.1) (listed_node c.in-ListClause.list c.args.multi c.args.local c.args.kind c.args.several)) c.list_clause_before.ensures)

pub returns-in-ListClause-clause-kept : goal.returns-in-ListClause-clause-kept
unfolding known_arms list_clause_arms
returns-in-ListClause-clause-kept c = rw c.in-ListClause.is (c.list_clause_local.ensures ∙ sym (ap (λ (x : Local × List Spacing × List Spacing). x.0) (listed_node c.in-ListClause.list c.args.multi c.args.local c.args.kind c.args.several)))

pub returns-in-SettingsClause-clause-before : goal.returns-in-SettingsClause-clause-before
unfolding known_arms arms_of format_settings_clause
returns-in-SettingsClause-clause-before c = rw c.in-SettingsClause.is (c.settings_clause_before.ensures c.args.local)

pub returns-in-SettingsClause-clause-kept : goal.returns-in-SettingsClause-clause-kept
unfolding known_arms arms_of format_settings_clause
returns-in-SettingsClause-clause-kept c = rw c.in-SettingsClause.is (settings_kept c.args.local c.args.kind)

pub returns-in-WithClause-clause-before : goal.returns-in-WithClause-clause-before
unfolding known_arms arms_of format_with_clause
returns-in-WithClause-clause-before c = rw c.in-WithClause.is (c.with_clause_before.ensures)

pub returns-in-WithClause-clause-kept : goal.returns-in-WithClause-clause-kept
unfolding known_arms arms_of format_with_clause
returns-in-WithClause-clause-kept c = rw c.in-WithClause.is (refl)

pub returns-in-CommaList-clause-before : goal.returns-in-CommaList-clause-before
unfolding known_arms arms_of format_comma_list
returns-in-CommaList-clause-before c = rw c.in-CommaList.is (spaced 2 _ (omega arith) refl (as_spaced c.space_if-in-CommaList.ensures))

pub returns-in-CommaList-clause-kept : goal.returns-in-CommaList-clause-kept
unfolding known_arms arms_of format_comma_list
returns-in-CommaList-clause-kept c = rw c.in-CommaList.is (c.flagged-in-CommaList.ensures)

pub returns-in-CaseExpression-clause-before : goal.returns-in-CaseExpression-clause-before
unfolding known_arms arms_of format_case_expression
returns-in-CaseExpression-clause-before c = rw c.in-CaseExpression.is (spaced 2 _ (omega arith) refl (c.case_expression_before.ensures c.args.local))

pub returns-in-CaseExpression-clause-kept : goal.returns-in-CaseExpression-clause-kept
unfolding known_arms arms_of format_case_expression
returns-in-CaseExpression-clause-kept c = rw c.in-CaseExpression.is (case-kept c.args.local c.args.kind)

pub returns-in-InlineTightParens-clause-before : goal.returns-in-InlineTightParens-clause-before
unfolding known_arms arms_of format_inline_tight_parens format_inline inline_node
returns-in-InlineTightParens-clause-before c = ⊎_elim (λ e. rw e (spaced 2 _ (omega arith) (ap space_if (sym c.space_after.ensures)) (as_spaced c.space_if-in-InlineTightParens.ensures))) (λ e. rw e (spaced 2 _ (omega arith) (ap space_if (sym c.space_after.ensures)) (as_spaced c.space_if-in-InlineTightParens.ensures))) c.in-InlineTightParens.is

pub returns-in-InlineTightParens-clause-kept : goal.returns-in-InlineTightParens-clause-kept
unfolding known_arms arms_of format_inline_tight_parens format_inline inline_node
returns-in-InlineTightParens-clause-kept c = ⊎_elim (λ e. rw e c.after.ensures) (λ e. rw e c.after.ensures) c.in-InlineTightParens.is

pub returns-in-UnionClause-clause-before : goal.returns-in-UnionClause-clause-before
unfolding known_arms arms_of format_union_clause
returns-in-UnionClause-clause-before c = rw c.in-UnionClause.is (spaced 2 _ (omega arith) refl c.union_clause_before.ensures)

pub returns-in-UnionClause-clause-kept : goal.returns-in-UnionClause-clause-kept
unfolding known_arms arms_of format_union_clause
returns-in-UnionClause-clause-kept c = rw c.in-UnionClause.is (c.union_clause_local.ensures)

pub returns-in_default-clause-before : goal.returns-in_default-clause-before
returns-in_default-clause-before c = spaced 2 _ (omega arith) (ap (λ (x : Local × List Spacing × List Spacing). x.1) (plain c.args.routine c.in_default.not-File c.in_default.not-QueryList c.in_default.not-SelectStatement c.in_default.not-SelectClause c.in_default.not-SimpleClause c.in_default.not-JoinClause c.in_default.not-ListClause c.in_default.not-SettingsClause c.in_default.not-WithClause c.in_default.not-CommaList c.in_default.not-CaseExpression c.in_default.not-InlineTightParens c.in_default.not-Inline c.in_default.not-UnionClause c.args.multi c.args.local c.args.kind (counted c.args.several))) no_spacing

pub returns-in_default-clause-kept : goal.returns-in_default-clause-kept
returns-in_default-clause-kept c = sym (ap (λ (x : Local × List Spacing × List Spacing). x.0) (plain c.args.routine c.in_default.not-File c.in_default.not-QueryList c.in_default.not-SelectStatement c.in_default.not-SelectClause c.in_default.not-SimpleClause c.in_default.not-JoinClause c.in_default.not-ListClause c.in_default.not-SettingsClause c.in_default.not-WithClause c.in_default.not-CommaList c.in_default.not-CaseExpression c.in_default.not-InlineTightParens c.in_default.not-Inline c.in_default.not-UnionClause c.args.multi c.args.local c.args.kind (counted c.args.several)))
