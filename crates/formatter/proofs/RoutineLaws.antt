-- What the routines' definitions come to around a child node, as the loops have it.
use Prim.Native.Nat.{ℕ}
use native.Mathlib.Omega.{arith}
use Rattle.std.proofs.lemmas.Bool.Decides.{nat_tests}
use mathlib.Core.Path.{◌≡◌, refl, sym, ap, ◌∙◌}
use mathlib.Core.Bool.{Bool, true, false, cond, not, ◌&&◌, ◌||◌}
use mathlib.Core.Logic.{⊎_elim}
use mathlib.Core.List.{List, [], ◌∷◌, map}
use lib.Dec.{eqb, ltb}
use Rattle.basics.specs.Match.{match}
use Rattle.tape.specs.Kinds.{ColumnList, SettingList, WhenClause, GroupByList, OrderByList}
use Rattle.tape.specs.Tree.{Children, has_child}
use Rattle.tape.specs.NodeFacts.{notes_several, notes_list, NodeFacts}
use Rattle.layout.specs.declared.Local.{Local}
use Rattle.layout.specs.declared.Routine.{Routine}
use Rattle.layout.specs.declared.Routine.TheVariants as TheVariants
use Rattle.layout.specs.Arms.{Spacing, newline, space, indent, dedent}
use Rattle.layout.specs.FormatNode.{routines, routine_of}
use Rattle.layout.specs.Routines.{format_select_clause, format_settings_clause, format_case_expression, multi_item, list_clause_node, list_clause_arms, format_list_clause, format_union_clause}
use Rattle.formatter.specs.RoutinePromises.{IsList}

-- a match on the child's kind whose arms leave the local variables as they are
kept : (l : Local) (t : Bool) (x y : List Spacing × List Spacing) → l ≡ (cond {A = Local × List Spacing × List Spacing} t (l, x.0, x.1) (l, y.0, y.1)).0
kept l t x y = grind arith

pub select_kept : (l : Local) (k : ℕ) → l ≡ (format_select_clause.at_node l k 0).0
unfolding format_select_clause
select_kept l k = kept l (eqb k ColumnList) (newline ∷ indent ∷ [], dedent ∷ []) ([], [])

pub settings_kept : (l : Local) (k : ℕ) → l ≡ (format_settings_clause.at_node l k 0).0
unfolding format_settings_clause
settings_kept l k = kept l (eqb k SettingList) (newline ∷ indent ∷ [], dedent ∷ []) (space ∷ [], [])

pub case-kept : (l : Local) (k : ℕ) → l ≡ (format_case_expression.at_node l k 0).0
unfolding format_case_expression
case-kept l k = kept l (eqb k WhenClause) (newline ∷ [], []) ([], [])

pub case-after : (l : Local) (k : ℕ) → [] ≡ (format_case_expression.at_node l k 0).2
unfolding format_case_expression
case-after l k = grind arith

-- ── format_group_by_clause, format_order_by_clause

-- the list of a clause is one of the two: computed over the table of routines
listed : Routine → Bool
listed (TheVariants.ListClause list) = eqb list GroupByList || eqb list OrderByList
listed _ = true

match-all : (k : ℕ) (table : List (ℕ × Routine)) (d : Routine) → map (λ (e : ℕ × Routine). listed e.1) table ≡ map (λ (e : ℕ × Routine). true) table → listed d ≡ true
    → listed (match k table d) ≡ true
match-all k [] d t u = u
match-all k (e ∷ es) d t u = go (eqb k e.0) (first t) (match-all k es d (others t) u)
  where
    first : {a b : Bool} {xs ys : List Bool} → a ∷ xs ≡ b ∷ ys → a ≡ b
    first w = cc

    others : {a b : Bool} {xs ys : List Bool} → a ∷ xs ≡ b ∷ ys → xs ≡ ys
    others w = cc

    go : (b : Bool) → listed e.1 ≡ true → listed (match k es d) ≡ true → listed (cond b e.1 (match k es d)) ≡ true
    go true v w = v
    go false v w = w

pub is-list : (k list : ℕ) → TheVariants.ListClause list ≡ routine_of k → IsList list
unfolding routine_of routines listed
is-list k list e = let u = ap listed e ∙ match-all k routines TheVariants.Passthrough refl refl in grind (arith, nat_tests)

-- by what the check has noted of the clause
pub multi_noted : {f k : ℕ} {list : ℕ} {kids : Children} → IsList list → NodeFacts f k kids → (notes_several f && not (notes_list list f)) ≡ multi_item list kids
unfolding multi_item
multi_noted {f} {k} {list} {kids} o n =
    let has : notes_list list f ≡ has_child list kids = ⊎_elim (λ e. rw e n.group_by_list) (λ e. rw e n.order_by_list) o in
    rw (n.several, has) (grind arith)

pub list-known : (list : ℕ) (kids : Children) (multi : Bool) → multi ≡ multi_item list kids → format_list_clause list kids ≡ list_clause_arms list multi
unfolding format_list_clause
list-known list kids multi e = ap (list_clause_arms list) (sym e)

-- what stands around a child node, once it is known whether it is the list and holds several items
abbrev pub list_node : ℕ → Bool → Local → ℕ → Bool → Local × List Spacing × List Spacing
list_node list multi l k several = (
  (list_clause_node list multi l k 0).0,
  cond (cond (eqb k list) several (not l.flag && multi)) (newline ∷ indent ∷ []) [],
  cond (eqb k list && several) (dedent ∷ []) [],
)

pub list-node : (list : ℕ) (multi : Bool) (l : Local) (k n : ℕ) (several : Bool) → several ≡ ltb 1 n
    → list_clause_node list multi l k n ≡ list_node list multi l k several
unfolding list_clause_node
list-node list multi l k n several e = rw e (grind arith)

-- what stands around another node does not depend on that
pub list_node-same : (list : ℕ) (multi : Bool) (l : Local) (k : ℕ) (several : Bool) → list_node list multi l k several ≡ list_node list multi l k (eqb k list && several)
list_node-same list multi l k several = grind arith

pub union_after : (l : Local) (k : ℕ) → [] ≡ (format_union_clause.at_node l k 0).2
unfolding format_union_clause
union_after l k = grind arith
