-- `union_clause_local` meets its contract.
use mathlib.Core.Path.{◌∙◌, sym}
use Rattle.layout.specs.Routines.{format_union_clause}
use Rattle.clauses.proofs.union_clause_local.Goals as goal

pub returns-then-is_select : goal.returns-then-is_select
unfolding format_union_clause
returns-then-is_select c = rw (sym c.is_select.ensures ∙ c.if-is_select.true) c.flagged.ensures

pub returns-else-is_select : goal.returns-else-is_select
unfolding format_union_clause
returns-else-is_select c = rw (sym c.is_select.ensures ∙ c.if-is_select.false)
