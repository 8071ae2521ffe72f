-- `union_clause_before` meets its contract.
use native.Mathlib.Omega.{arith}
use mathlib.Core.Bool.{Bool, cond}
use mathlib.Core.List.{[], ◌∷◌}
use mathlib.Core.Path.{◌∙◌, ap, sym}
use Rattle.layout.specs.Arms.{newline}
use Rattle.layout.specs.Routines.{format_union_clause}
use Rattle.tokens.proofs.Runs.{spaced}
use Rattle.clauses.proofs.union_clause_before.Goals.{then-is_select, else-is_select}
use Rattle.clauses.proofs.union_clause_before.Goals as goal

pub returns : goal.returns
unfolding format_union_clause
returns c =
    let e = c.is_select.ensures in
    spaced 1 _ (omega arith)
    (elim c.if-is_select.branch [
      | then-is_select w ↦ rw (sym e ∙ w.if-is_select.true) (ap (λ (b : Bool). cond b (newline ∷ []) []) (sym w.newline_if-is))
      | else-is_select w ↦ rw (sym e ∙ w.if-is_select.false) (ap (λ (b : Bool). cond b (newline ∷ []) []) (sym (w.newline_if-is ∙ w.if-is_select.false)))
    ])
    c.newline_if.ensures
