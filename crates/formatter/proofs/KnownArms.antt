-- The arms of a routine, once it is known what it looks ahead for: what the laws of the loop and the functions of `arms` need of them.
use Prim.Native.Nat.{ℕ}
use native.Mathlib.Omega.{arith}
use mathlib.Core.Path.{◌≡◌, refl, sym, ap, ◌∙◌}
use mathlib.Core.Bool.{Bool, true, false, ◌&&◌}
use mathlib.Core.Logic.{inl, inr, ◌⊎◌}
use mathlib.Core.List.{[]}
use lib.Dec.{eqb, ltb}
use Rattle.tape.specs.Tree.{Children}
use Rattle.tape.specs.NodeFacts.{notes_several, NodeFacts}
use Rattle.layout.specs.declared.Local.{Local}
use Rattle.layout.specs.declared.Routine.{Routine}
use Rattle.layout.specs.declared.Routine.TheVariants as TheVariants
use Rattle.layout.specs.FormatNode.{arms_of, routine_of}
use Rattle.layout.specs.Routines.{flagged, list_clause_node, inline_node, format_file, format_query_list, format_select_statement, format_select_clause, format_simple_clause, list_clause_arms, format_settings_clause, format_with_clause, format_join_clause, format_inline, format_comma_list, format_inline_comma_list, format_binary_expression, format_unary_expression, format_function_call, format_case_expression, format_when_clause, format_subquery, format_paren_list, format_bracket_list, format_inline_no_spaces, format_brace_list, format_data_type, format_inline_tight_parens, format_alter_command_list, format_union_clause, format_passthrough}
use Rattle.token_map.specs.Signed.{Signed}
use Rattle.token_map.specs.declared.Signs.TheVariants as signs
use Rattle.token_map.proofs.SignedRoutines.{select_signed, simple_signed, settings_signed, with_signed, join_signed, inline_signed, binary_signed, case-signed, when_signed, no_spaces_signed, tight_paren_signed, union_signed, pass_signed}
use Rattle.formatter.specs.RoutinePromises.{HasList}
use Rattle.formatter.specs.KnownArms.{counted, known_arms, noted_multi, noted_several}
use Rattle.formatter.proofs.RoutineLaws.{case-after, union_after, is-list, multi_noted, list-known, list-node, list_node, list_node-same}

ruleset signed_arms = (select_signed, simple_signed, settings_signed, with_signed, join_signed, inline_signed, binary_signed, case-signed, when_signed, no_spaces_signed, tight_paren_signed, union_signed, pass_signed)

pub begins_first : {r : Routine} → (r ≡ TheVariants.QueryList) ⊎ (r ≡ TheVariants.SelectStatement) → (multi : Bool) → flagged true ≡ (known_arms r multi).begin
unfolding known_arms arms_of format_query_list format_select_statement
begins_first (inl e) multi = ap (λ (x : Routine). (known_arms x multi).begin) (sym e)
begins_first (inr e) multi = ap (λ (x : Routine). (known_arms x multi).begin) (sym e)

-- all others
pub begins : (r : Routine) → (r ≡ TheVariants.QueryList → ⊥) → (r ≡ TheVariants.SelectStatement → ⊥) → (multi : Bool) → flagged false ≡ (known_arms r multi).begin
unfolding known_arms arms_of format_file format_query_list format_select_statement format_select_clause format_simple_clause list_clause_arms format_settings_clause format_with_clause format_join_clause format_inline format_comma_list format_inline_comma_list format_binary_expression format_unary_expression format_function_call format_case_expression format_when_clause format_subquery format_paren_list format_bracket_list format_inline_no_spaces format_brace_list format_data_type format_inline_tight_parens format_alter_command_list format_union_clause format_passthrough
begins TheVariants.File f g multi = search
begins _ f g multi = search

-- the routines that do nothing around a child node
pub plain : (r : Routine) → (r ≡ TheVariants.File → ⊥) → (r ≡ TheVariants.QueryList → ⊥) → (r ≡ TheVariants.SelectStatement → ⊥) → (r ≡ TheVariants.SelectClause → ⊥) → (r ≡ TheVariants.SimpleClause → ⊥) → (r ≡ TheVariants.JoinClause → ⊥) → ((list : ℕ) → r ≡ TheVariants.ListClause list → ⊥) → (r ≡ TheVariants.SettingsClause → ⊥) → (r ≡ TheVariants.WithClause → ⊥) → (r ≡ TheVariants.CommaList → ⊥) → (r ≡ TheVariants.CaseExpression → ⊥) → (r ≡ TheVariants.InlineTightParens → ⊥) → (r ≡ TheVariants.Inline → ⊥) → (r ≡ TheVariants.UnionClause → ⊥) → (multi : Bool) (l : Local) (k n : ℕ) → (known_arms r multi).at_node l k n ≡ (l, [], [])
unfolding known_arms arms_of format_file format_query_list format_select_statement format_select_clause format_simple_clause list_clause_arms format_settings_clause format_with_clause format_join_clause format_inline format_comma_list format_inline_comma_list format_binary_expression format_unary_expression format_function_call format_case_expression format_when_clause format_subquery format_paren_list format_bracket_list format_inline_no_spaces format_brace_list format_data_type format_inline_tight_parens format_alter_command_list format_union_clause format_passthrough
plain (TheVariants.ListClause list) _ _ _ _ _ _ f _ _ _ _ _ _ _ multi l k n = absurd (f list refl)
plain _ a b c d e f g h i j o p q r multi l k n = search

-- those that do nothing after one
pub unfollowed : (r : Routine) → (r ≡ TheVariants.SelectClause → ⊥) → ((list : ℕ) → r ≡ TheVariants.ListClause list → ⊥) → (r ≡ TheVariants.SettingsClause → ⊥) → (r ≡ TheVariants.WithClause → ⊥) → (multi : Bool) (l : Local) (k n : ℕ) → [] ≡ ((known_arms r multi).at_node l k n).2
unfolding known_arms arms_of format_file format_query_list format_select_statement format_select_clause format_simple_clause list_clause_arms format_settings_clause format_with_clause format_join_clause format_inline format_comma_list format_inline_comma_list format_binary_expression format_unary_expression format_function_call format_case_expression format_when_clause format_subquery format_paren_list format_bracket_list format_inline_no_spaces format_brace_list format_data_type format_inline_tight_parens format_alter_command_list format_union_clause format_passthrough inline_node
unfollowed (TheVariants.ListClause list) _ f _ _ multi l k n = absurd (f list refl)
unfollowed TheVariants.CaseExpression _ _ _ _ multi l k n = case-after l k
unfollowed TheVariants.UnionClause _ _ _ _ multi l k n = union_after l k
unfollowed _ a b c d multi l k n = search

-- those that write no fixed sign
pub plainly_signed : (r : Routine) → (r ≡ TheVariants.File → ⊥) → (r ≡ TheVariants.QueryList → ⊥) → (r ≡ TheVariants.SelectStatement → ⊥) → ((list : ℕ) → r ≡ TheVariants.ListClause list → ⊥) → (r ≡ TheVariants.CommaList → ⊥) → (r ≡ TheVariants.InlineCommaList → ⊥) → (r ≡ TheVariants.AlterCommandList → ⊥) → (r ≡ TheVariants.UnaryExpression → ⊥) → (r ≡ TheVariants.FunctionCall → ⊥) → (r ≡ TheVariants.Subquery → ⊥) → (r ≡ TheVariants.ParenList → ⊥) → (r ≡ TheVariants.DataType → ⊥) → (r ≡ TheVariants.BracketList → ⊥) → (r ≡ TheVariants.BraceList → ⊥) → (multi : Bool) → Signed signs.Nothing (known_arms r multi)
unfolding known_arms arms_of format_file format_query_list format_select_statement format_select_clause format_simple_clause format_settings_clause format_with_clause format_join_clause format_inline format_comma_list format_inline_comma_list format_binary_expression format_unary_expression format_function_call format_case_expression format_when_clause format_subquery format_paren_list format_bracket_list format_inline_no_spaces format_brace_list format_data_type format_inline_tight_parens format_alter_command_list format_union_clause format_passthrough
plainly_signed (TheVariants.ListClause list) _ _ _ f _ _ _ _ _ _ _ _ _ _ multi = absurd (f list refl)
plainly_signed _ a b c d e f g h i j o p q r multi = search signed_arms

-- nothing at the end
pub no_end : (r : Routine) → ((list : ℕ) → r ≡ TheVariants.ListClause list → ⊥) → (multi : Bool) (l : Local) → [] ≡ (known_arms r multi).at_end l
unfolding known_arms arms_of format_file format_query_list format_select_statement format_select_clause format_simple_clause list_clause_arms format_settings_clause format_with_clause format_join_clause format_inline format_comma_list format_inline_comma_list format_binary_expression format_unary_expression format_function_call format_case_expression format_when_clause format_subquery format_paren_list format_bracket_list format_inline_no_spaces format_brace_list format_data_type format_inline_tight_parens format_alter_command_list format_union_clause format_passthrough
no_end (TheVariants.ListClause list) f multi l = absurd (f list refl)
no_end _ f multi l = refl

-- only a list clause looks ahead
pub looks_at_nothing : (r : Routine) → ((list : ℕ) → r ≡ TheVariants.ListClause list → ⊥) → (f : ℕ) → false ≡ noted_multi r f
unfolding noted_multi
looks_at_nothing (TheVariants.ListClause list) e f = absurd (e list refl)
looks_at_nothing _ e f = refl

-- nor around a child node
pub asks_nothing : (r : Routine) → ((list : ℕ) → r ≡ TheVariants.ListClause list → ⊥) → (k f : ℕ) → false ≡ noted_several r k f
unfolding noted_several
asks_nothing (TheVariants.ListClause list) e k f = absurd (e list refl)
asks_nothing _ e k f = refl

-- a routine of the dispatch is a list clause of no other list
pub has-list : (r : Routine) (kind : ℕ) → r ≡ routine_of kind → HasList r
has-list (TheVariants.ListClause list) kind e = is-list kind list e
has-list _ kind e = tt

-- a routine, by what the check has noted of its node
pub known : (r : Routine) {f k : ℕ} {kids : Children} → HasList r → NodeFacts f k kids → arms_of r kids ≡ known_arms r (noted_multi r f)
unfolding known_arms noted_multi arms_of
known (TheVariants.ListClause list) {f} {k} {kids} h n = list-known list kids (noted_multi (TheVariants.ListClause list) f) (multi_noted h n)
known _ h n = refl

several_counted : (b : Bool) → b ≡ ltb 1 (counted b)
several_counted b = grind arith

pub listed_node : (list : ℕ) (multi : Bool) (l : Local) (k : ℕ) (several : Bool) → list_clause_node list multi l k (counted several) ≡ list_node list multi l k several
listed_node list multi l k several = list-node list multi l k (counted several) several (several_counted several)

-- no routine asks for more than whether a child holds several items
pub counted-same : (r : Routine) (multi : Bool) (l : Local) (k f n : ℕ) → notes_several f ≡ ltb 1 n → (known_arms r multi).at_node l k n ≡ (known_arms r multi).at_node l k (counted (noted_several r k f))
unfolding noted_several known_arms arms_of format_file format_query_list format_select_statement format_select_clause format_simple_clause list_clause_arms format_settings_clause format_with_clause format_join_clause format_inline format_comma_list format_inline_comma_list format_binary_expression format_unary_expression format_function_call format_case_expression format_when_clause format_subquery format_paren_list format_bracket_list format_inline_no_spaces format_brace_list format_data_type format_inline_tight_parens format_alter_command_list format_union_clause format_passthrough list_clause_node inline_node
counted-same (TheVariants.ListClause list) multi l k f n e =
    list-node list multi l k n (notes_several f) e ∙ list_node-same list multi l k (notes_several f) ∙ sym (listed_node list multi l k (eqb k list && notes_several f))
counted-same _ multi l k f n e = refl
