-- The match of format_node: the routine of each kind, in the source's order, and the arms of each routine. The kinds that are not
-- carried are left out, and an Error node never comes here.
use Rattle.std.specs.Prelude.{ℕ, List, [], ◌∷◌}
use Rattle.basics.specs.Match.{match}
use Rattle.tape.specs.Kinds
use Rattle.tape.specs.Tree.{Children}
use Rattle.layout.specs.declared.Routine.{Routine}
use Rattle.layout.specs.declared.Routine.TheVariants.{File, QueryList, SelectStatement, SelectClause, SimpleClause, ListClause, SettingsClause, WithClause, JoinClause, Inline, CommaList, InlineCommaList, BinaryExpression, UnaryExpression, FunctionCall, CaseExpression, WhenClause, Subquery, ParenList, BracketList, InlineNoSpaces, BraceList, DataType, InlineTightParens, AlterCommandList, UnionClause, Passthrough}
use Rattle.layout.specs.Arms.{Arms}
use Rattle.layout.specs.Routines.{format_file, format_query_list, format_select_statement, format_select_clause, format_simple_clause, format_list_clause, format_join_clause, format_settings_clause, format_with_clause, format_comma_list, format_inline_comma_list, format_binary_expression, format_unary_expression, format_function_call, format_case_expression, format_when_clause, format_subquery, format_paren_list, format_bracket_list, format_brace_list, format_data_type, format_inline_tight_parens, format_inline, format_inline_no_spaces, format_passthrough, format_alter_command_list, format_union_clause}

unfoldable pub arms_of : Routine → Children → Arms
arms_of File kids = format_file
arms_of QueryList kids = format_query_list
arms_of SelectStatement kids = format_select_statement
arms_of SelectClause kids = format_select_clause
arms_of SimpleClause kids = format_simple_clause
arms_of (ListClause list) kids = format_list_clause list kids
arms_of SettingsClause kids = format_settings_clause
arms_of WithClause kids = format_with_clause
arms_of JoinClause kids = format_join_clause
arms_of Inline kids = format_inline
arms_of CommaList kids = format_comma_list
arms_of InlineCommaList kids = format_inline_comma_list
arms_of BinaryExpression kids = format_binary_expression
arms_of UnaryExpression kids = format_unary_expression
arms_of FunctionCall kids = format_function_call
arms_of CaseExpression kids = format_case_expression
arms_of WhenClause kids = format_when_clause
arms_of Subquery kids = format_subquery
arms_of ParenList kids = format_paren_list
arms_of BracketList kids = format_bracket_list
arms_of InlineNoSpaces kids = format_inline_no_spaces
arms_of BraceList kids = format_brace_list
arms_of DataType kids = format_data_type
arms_of InlineTightParens kids = format_inline_tight_parens
arms_of AlterCommandList kids = format_alter_command_list
arms_of UnionClause kids = format_union_clause
arms_of Passthrough kids = format_passthrough

unfoldable pub routines : List (ℕ × Routine)
routines =
    (Kinds.File, File)
    ∷ (Kinds.QueryList, QueryList)
    ∷ (Kinds.SelectStatement, SelectStatement)
    ∷ (Kinds.SelectClause, SelectClause)
    ∷ (Kinds.FromClause, SimpleClause)
    ∷ (Kinds.PrewhereClause, SimpleClause)
    ∷ (Kinds.WhereClause, SimpleClause)
    ∷ (Kinds.HavingClause, SimpleClause)
    ∷ (Kinds.GroupByClause, ListClause Kinds.GroupByList)
    ∷ (Kinds.OrderByClause, ListClause Kinds.OrderByList)
    ∷ (Kinds.LimitClause, SimpleClause)
    ∷ (Kinds.LimitByClause, JoinClause)
    ∷ (Kinds.SettingsClause, SettingsClause)
    ∷ (Kinds.WithClause, WithClause)
    ∷ (Kinds.JoinClause, JoinClause)
    ∷ (Kinds.ArrayJoinClause, SimpleClause)
    ∷ (Kinds.WindowClause, SimpleClause)
    ∷ (Kinds.WindowDefinition, Inline)
    ∷ (Kinds.WindowFrame, Inline)
    ∷ (Kinds.WindowSpec, Inline)
    ∷ (Kinds.WindowExpression, Inline)
    ∷ (Kinds.SampleClause, Inline)
    ∷ (Kinds.WithFillClause, Inline)
    ∷ (Kinds.JoinType, Inline)
    ∷ (Kinds.JoinConstraint, Inline)
    ∷ (Kinds.ColumnList, CommaList)
    ∷ (Kinds.ExpressionList, InlineCommaList)
    ∷ (Kinds.OrderByList, CommaList)
    ∷ (Kinds.GroupByList, CommaList)
    ∷ (Kinds.SettingList, CommaList)
    ∷ (Kinds.BinaryExpression, BinaryExpression)
    ∷ (Kinds.UnaryExpression, UnaryExpression)
    ∷ (Kinds.FunctionCall, FunctionCall)
    ∷ (Kinds.AggregateFunction, FunctionCall)
    ∷ (Kinds.CaseExpression, CaseExpression)
    ∷ (Kinds.WhenClause, WhenClause)
    ∷ (Kinds.SubqueryExpression, Subquery)
    ∷ (Kinds.CastExpression, Inline)
    ∷ (Kinds.ColumnAlias, Inline)
    ∷ (Kinds.TableAlias, Inline)
    ∷ (Kinds.OrderByItem, Inline)
    ∷ (Kinds.SettingItem, Inline)
    ∷ (Kinds.WithExpressionItem, Inline)
    ∷ (Kinds.BetweenExpression, Inline)
    ∷ (Kinds.InExpression, Inline)
    ∷ (Kinds.IsNullExpression, Inline)
    ∷ (Kinds.LikeExpression, Inline)
    ∷ (Kinds.IntervalExpression, Inline)
    ∷ (Kinds.LambdaExpression, Inline)
    ∷ (Kinds.TupleExpression, ParenList)
    ∷ (Kinds.ArrayExpression, BracketList)
    ∷ (Kinds.ArrayAccessExpression, InlineNoSpaces)
    ∷ (Kinds.MapExpression, BraceList)
    ∷ (Kinds.QueryParameterExpression, InlineNoSpaces)
    ∷ (Kinds.TableIdentifier, Inline)
    ∷ (Kinds.TableExpression, Inline)
    ∷ (Kinds.TableFunction, FunctionCall)
    ∷ (Kinds.QualifiedName, InlineNoSpaces)
    ∷ (Kinds.ColumnReference, Inline)
    ∷ (Kinds.DataType, DataType)
    ∷ (Kinds.DataTypeParameters, DataType)
    ∷ (Kinds.UsingList, Inline)
    ∷ (Kinds.InsertColumnsClause, InlineCommaList)
    ∷ (Kinds.ValueRow, ParenList)
    ∷ (Kinds.InsertFormatClause, SimpleClause)
    ∷ (Kinds.FormatClause, SimpleClause)
    ∷ (Kinds.ColumnDefinition, Inline)
    ∷ (Kinds.ColumnDefault, Inline)
    ∷ (Kinds.ColumnCodec, InlineTightParens)
    ∷ (Kinds.ColumnTtl, Inline)
    ∷ (Kinds.ColumnComment, Inline)
    ∷ (Kinds.OrderByDefinition, SimpleClause)
    ∷ (Kinds.PartitionByDefinition, SimpleClause)
    ∷ (Kinds.PrimaryKeyDefinition, SimpleClause)
    ∷ (Kinds.SampleByDefinition, SimpleClause)
    ∷ (Kinds.TtlDefinition, SimpleClause)
    ∷ (Kinds.OnClusterClause, Inline)
    ∷ (Kinds.IfNotExistsClause, Inline)
    ∷ (Kinds.IfExistsClause, Inline)
    ∷ (Kinds.AsClause, SimpleClause)
    ∷ (Kinds.DictionarySource, InlineTightParens)
    ∷ (Kinds.DictionarySourceType, InlineTightParens)
    ∷ (Kinds.DictionaryLayout, InlineTightParens)
    ∷ (Kinds.DictionaryLayoutType, InlineTightParens)
    ∷ (Kinds.DictionaryLifetime, InlineTightParens)
    ∷ (Kinds.DictionaryRange, InlineTightParens)
    ∷ (Kinds.DictionaryKeyValue, Inline)
    ∷ (Kinds.FunctionDefinition, Inline)
    ∷ (Kinds.IndexDefinition, InlineTightParens)
    ∷ (Kinds.ProjectionDefinition, Inline)
    ∷ (Kinds.ConstraintDefinition, Inline)
    ∷ (Kinds.CreateIndexStatement, SimpleClause)
    ∷ (Kinds.CreateUserStatement, Inline)
    ∷ (Kinds.CreateRoleStatement, Inline)
    ∷ (Kinds.CreateQuotaStatement, Inline)
    ∷ (Kinds.CreateRowPolicyStatement, Inline)
    ∷ (Kinds.CreateSettingsProfileStatement, Inline)
    ∷ (Kinds.AlterUserStatement, Inline)
    ∷ (Kinds.DropAccessEntityStatement, Inline)
    ∷ (Kinds.AlterCommandList, AlterCommandList)
    ∷ (Kinds.AlterAddColumn, Inline)
    ∷ (Kinds.AlterDropColumn, Inline)
    ∷ (Kinds.AlterModifyColumn, Inline)
    ∷ (Kinds.AlterRenameColumn, Inline)
    ∷ (Kinds.AlterClearColumn, Inline)
    ∷ (Kinds.AlterCommentColumn, Inline)
    ∷ (Kinds.AlterAddIndex, Inline)
    ∷ (Kinds.AlterDropIndex, Inline)
    ∷ (Kinds.AlterClearIndex, Inline)
    ∷ (Kinds.AlterMaterializeIndex, Inline)
    ∷ (Kinds.AlterAddProjection, Inline)
    ∷ (Kinds.AlterDropProjection, Inline)
    ∷ (Kinds.AlterAddConstraint, Inline)
    ∷ (Kinds.AlterDropConstraint, Inline)
    ∷ (Kinds.AlterModifyOrderBy, Inline)
    ∷ (Kinds.AlterModifyTtl, Inline)
    ∷ (Kinds.AlterModifySetting, Inline)
    ∷ (Kinds.AlterModifyComment, Inline)
    ∷ (Kinds.AlterModifyQuery, Inline)
    ∷ (Kinds.AlterMaterializeProjection, Inline)
    ∷ (Kinds.AlterMaterializeTtl, Inline)
    ∷ (Kinds.AlterResetSetting, Inline)
    ∷ (Kinds.AlterDropPartition, Inline)
    ∷ (Kinds.AlterAttachPartition, Inline)
    ∷ (Kinds.AlterDetachPartition, Inline)
    ∷ (Kinds.AlterFreezePartition, Inline)
    ∷ (Kinds.AlterDeleteWhere, Inline)
    ∷ (Kinds.AlterUpdateWhere, Inline)
    ∷ (Kinds.UnionClause, UnionClause)
    ∷ (Kinds.UseStatement, SimpleClause)
    ∷ (Kinds.DropStatement, SimpleClause)
    ∷ (Kinds.TruncateStatement, SimpleClause)
    ∷ (Kinds.ExistsStatement, SimpleClause)
    ∷ (Kinds.CheckStatement, SimpleClause)
    ∷ (Kinds.RenameStatement, SimpleClause)
    ∷ (Kinds.OptimizeStatement, SimpleClause)
    ∷ (Kinds.DeleteStatement, SimpleClause)
    ∷ (Kinds.AttachStatement, SimpleClause)
    ∷ (Kinds.DetachStatement, SimpleClause)
    ∷ (Kinds.ExchangeStatement, SimpleClause)
    ∷ (Kinds.UndropStatement, SimpleClause)
    ∷ (Kinds.BackupStatement, SimpleClause)
    ∷ (Kinds.RestoreStatement, SimpleClause)
    ∷ (Kinds.GrantStatement, SimpleClause)
    ∷ (Kinds.RevokeStatement, SimpleClause)
    ∷ (Kinds.SystemStatement, SimpleClause)
    ∷ (Kinds.KillStatement, SimpleClause)
    ∷ (Kinds.SystemCommand, Inline)
    ∷ (Kinds.KillTarget, Inline)
    ∷ (Kinds.RenameItem, Inline)
    ∷ (Kinds.PrivilegeList, InlineCommaList)
    ∷ (Kinds.Privilege, Inline)
    ∷ (Kinds.GrantTarget, Inline)
    ∷ (Kinds.IdentifierList, InlineCommaList)
    ∷ (Kinds.PartitionExpression, Inline)
    ∷ (Kinds.Assignment, Inline)
    ∷ (Kinds.AssignmentList, InlineCommaList)
    ∷ (Kinds.SetClause, Inline)
    ∷ (Kinds.DescribeStatement, SimpleClause)
    ∷ (Kinds.ShowStatement, SimpleClause)
    ∷ (Kinds.ExplainKind, Inline)
    ∷ (Kinds.ShowTarget, Inline)
    ∷ (Kinds.LikeClause, Inline)
    ∷ (Kinds.FromDatabaseClause, Inline)
    ∷ []

-- any other kind goes to format_passthrough
unfoldable pub routine_of : ℕ → Routine
routine_of k = match k routines Passthrough

-- format_node: the arms for a node of a kind with these children
unfoldable pub format_node : ℕ → Children → Arms
format_node k kids = arms_of (routine_of k) kids
