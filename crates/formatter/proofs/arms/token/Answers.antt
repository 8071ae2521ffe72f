-- `token` meets its contract. No lemma can stand for several answers: each goal has names of its own for its branch and its call.
use mathlib.Core.Path.{refl}
use mathlib.Core.Logic.{⊎_elim}
use Rattle.formatter.specs.KnownArms.{known_arms}
use Rattle.layout.specs.FormatNode.{arms_of}
use Rattle.layout.specs.Routines.{format_file, format_query_list, format_select_statement, format_select_clause, format_simple_clause, list_clause_arms, format_settings_clause, format_with_clause, format_join_clause, format_inline, format_comma_list, format_inline_comma_list, format_binary_expression, format_unary_expression, format_function_call, format_case_expression, format_when_clause, format_subquery, format_paren_list, format_bracket_list, format_inline_no_spaces, format_brace_list, format_data_type, format_inline_tight_parens, format_alter_command_list, format_union_clause, format_passthrough, union_token}
use Rattle.formatter.proofs.arms.token.Goals as goal

pub returns-in-File : goal.returns-in-File
unfolding known_arms arms_of format_file
returns-in-File c = rw c.in-File.is (record { acted = c.file_token-context.ensures; local = refl })

pub returns-in-QueryList : goal.returns-in-QueryList
unfolding known_arms arms_of format_query_list
returns-in-QueryList c = rw c.in-QueryList.is (record { acted = c.query_list_token-context.ensures; local = refl })

pub returns-in-SelectStatement : goal.returns-in-SelectStatement
unfolding known_arms arms_of format_select_statement
returns-in-SelectStatement c = rw c.in-SelectStatement.is (record { acted = c.select_statement_token-context.ensures; local = refl })

pub returns-in-SelectClause : goal.returns-in-SelectClause
unfolding known_arms arms_of format_select_clause format_settings_clause format_with_clause
returns-in-SelectClause c =
    let d = c.select_clause_token-context.ensures in
    ⊎_elim (λ e. rw e (record { acted = d; local = refl })) (⊎_elim (λ e. rw e (record { acted = d; local = refl })) (λ e. rw e (record { acted = d; local = refl }))) c.in-SelectClause.is

pub returns-in-SimpleClause : goal.returns-in-SimpleClause
unfolding known_arms arms_of format_simple_clause
returns-in-SimpleClause c = rw c.in-SimpleClause.is c.simple_clause_token.ensures

pub returns-in-ListClause : goal.returns-in-ListClause
unfolding known_arms list_clause_arms
returns-in-ListClause c = rw c.in-ListClause.is (record { acted = c.list_clause_token-context.ensures; local = refl })

pub returns-in-JoinClause : goal.returns-in-JoinClause
unfolding known_arms arms_of format_join_clause
returns-in-JoinClause c = rw c.in-JoinClause.is c.join_clause_token.ensures

pub returns-in-Inline : goal.returns-in-Inline
unfolding known_arms arms_of format_inline
returns-in-Inline c = rw c.in-Inline.is c.inline_token.ensures

pub returns-in-CommaList : goal.returns-in-CommaList
unfolding known_arms arms_of format_comma_list
returns-in-CommaList c = rw c.in-CommaList.is c.comma_list_token.ensures

pub returns-in-InlineCommaList : goal.returns-in-InlineCommaList
unfolding known_arms arms_of format_inline_comma_list
returns-in-InlineCommaList c = rw c.in-InlineCommaList.is (record { acted = c.inline_comma_list_token-context.ensures; local = refl })

pub returns-in-BinaryExpression : goal.returns-in-BinaryExpression
unfolding known_arms arms_of format_binary_expression
returns-in-BinaryExpression c = rw c.in-BinaryExpression.is (record { acted = c.binary_expression_token-context.ensures; local = refl })

pub returns-in-UnaryExpression : goal.returns-in-UnaryExpression
unfolding known_arms arms_of format_unary_expression
returns-in-UnaryExpression c = rw c.in-UnaryExpression.is (record { acted = c.unary_expression_token-context.ensures; local = refl })

pub returns-in-FunctionCall : goal.returns-in-FunctionCall
unfolding known_arms arms_of format_function_call
returns-in-FunctionCall c = rw c.in-FunctionCall.is (record { acted = c.function_call_token-context.ensures; local = refl })

pub returns-in-CaseExpression : goal.returns-in-CaseExpression
unfolding known_arms arms_of format_case_expression
returns-in-CaseExpression c = rw c.in-CaseExpression.is (record { acted = c.case_expression_token-context.ensures; local = refl })

pub returns-in-WhenClause : goal.returns-in-WhenClause
unfolding known_arms arms_of format_when_clause
returns-in-WhenClause c = rw c.in-WhenClause.is (record { acted = c.when_clause_token-context.ensures; local = refl })

pub returns-in-Subquery : goal.returns-in-Subquery
unfolding known_arms arms_of format_subquery
returns-in-Subquery c = rw c.in-Subquery.is (record { acted = c.subquery_token-context.ensures; local = refl })

pub returns-in-ParenList : goal.returns-in-ParenList
unfolding known_arms arms_of format_paren_list
returns-in-ParenList c = rw c.in-ParenList.is (record { acted = c.paren_list_token-context.ensures; local = refl })

pub returns-in-BracketList : goal.returns-in-BracketList
unfolding known_arms arms_of format_bracket_list
returns-in-BracketList c = rw c.in-BracketList.is (record { acted = c.bracket_list_token-context.ensures; local = refl })

pub returns-in-InlineNoSpaces : goal.returns-in-InlineNoSpaces
unfolding known_arms arms_of format_inline_no_spaces
returns-in-InlineNoSpaces c = rw c.in-InlineNoSpaces.is (record { acted = c.emit_other-context.ensures; local = refl })

pub returns-in-BraceList : goal.returns-in-BraceList
unfolding known_arms arms_of format_brace_list
returns-in-BraceList c = rw c.in-BraceList.is (record { acted = c.brace_list_token-context.ensures; local = refl })

pub returns-in-DataType : goal.returns-in-DataType
unfolding known_arms arms_of format_data_type
returns-in-DataType c = rw c.in-DataType.is (record { acted = c.data_type_token-context.ensures; local = refl })

pub returns-in-InlineTightParens : goal.returns-in-InlineTightParens
unfolding known_arms arms_of format_inline_tight_parens
returns-in-InlineTightParens c = rw c.in-InlineTightParens.is c.inline_tight_parens_token.ensures

pub returns-in-AlterCommandList : goal.returns-in-AlterCommandList
unfolding known_arms arms_of format_alter_command_list
returns-in-AlterCommandList c = rw c.in-AlterCommandList.is (record { acted = c.alter_command_list_token-context.ensures; local = refl })

pub returns-in-UnionClause : goal.returns-in-UnionClause
unfolding known_arms arms_of format_union_clause union_token
returns-in-UnionClause c = rw c.in-UnionClause.is (record { acted = c.union_clause_token-context.ensures; local = refl })

pub returns-in-Passthrough : goal.returns-in-Passthrough
unfolding known_arms arms_of format_passthrough
returns-in-Passthrough c = rw c.in-Passthrough.is (record { acted = c.passthrough_token-context.ensures; local = refl })
