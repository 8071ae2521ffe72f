-- `signs` meets its contract.
use mathlib.Core.Logic.{⊎_elim}
use Rattle.formatter.specs.KnownArms.{known_arms}
use Rattle.layout.specs.FormatNode.{arms_of}
use Rattle.token_map.proofs.SignedRoutines.{alter_signed, brace_signed, bracket_signed, call_signed, comma_signed, dtype_signed, file-signed, inl_list_signed, list-by_signed, paren_signed, queries_signed, sel_stmt_signed, subquery_signed, unary_signed}
use Rattle.formatter.proofs.KnownArms.{plainly_signed}
use Rattle.formatter.proofs.arms.signs.Goals as goal

pub returns-in-File : goal.returns-in-File
unfolding known_arms arms_of
returns-in-File c = λ multi. ⊎_elim (λ e. rw e file-signed) (λ e. rw e queries_signed) c.in-File.is

pub returns-in-SelectStatement : goal.returns-in-SelectStatement
unfolding known_arms arms_of
returns-in-SelectStatement c = λ multi. rw c.in-SelectStatement.is sel_stmt_signed

pub returns-in-ListClause : goal.returns-in-ListClause
unfolding known_arms arms_of
returns-in-ListClause c = λ multi. rw c.in-ListClause.is (list-by_signed c.in-ListClause.list multi)

pub returns-in-CommaList : goal.returns-in-CommaList
unfolding known_arms arms_of
returns-in-CommaList c = λ multi. ⊎_elim (λ e. rw e comma_signed) (⊎_elim (λ e. rw e inl_list_signed) (λ e. rw e alter_signed)) c.in-CommaList.is

pub returns-in-UnaryExpression : goal.returns-in-UnaryExpression
unfolding known_arms arms_of
returns-in-UnaryExpression c = λ multi. rw c.in-UnaryExpression.is unary_signed

pub returns-in-FunctionCall : goal.returns-in-FunctionCall
unfolding known_arms arms_of
returns-in-FunctionCall c = λ multi. ⊎_elim (λ e. rw e call_signed) (λ e. rw e subquery_signed) c.in-FunctionCall.is

pub returns-in-ParenList : goal.returns-in-ParenList
unfolding known_arms arms_of
returns-in-ParenList c = λ multi. ⊎_elim (λ e. rw e paren_signed) (λ e. rw e dtype_signed) c.in-ParenList.is

pub returns-in-BracketList : goal.returns-in-BracketList
unfolding known_arms arms_of
returns-in-BracketList c = λ multi. rw c.in-BracketList.is bracket_signed

pub returns-in-BraceList : goal.returns-in-BraceList
unfolding known_arms arms_of
returns-in-BraceList c = λ multi. rw c.in-BraceList.is brace_signed

pub returns-in_default : goal.returns-in_default
returns-in_default c = plainly_signed c.args.routine c.in_default.not-File c.in_default.not-QueryList c.in_default.not-SelectStatement c.in_default.not-ListClause c.in_default.not-CommaList c.in_default.not-InlineCommaList c.in_default.not-AlterCommandList c.in_default.not-UnaryExpression c.in_default.not-FunctionCall c.in_default.not-Subquery c.in_default.not-ParenList c.in_default.not-DataType c.in_default.not-BracketList c.in_default.not-BraceList
