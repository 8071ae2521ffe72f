-- `list_clause_local` meets its contract.
use borrow.Author.Tests.{eq-eqb, ne_eqb}
use Rattle.layout.specs.Routines.{list_clause_node}
use Rattle.clauses.proofs.list_clause_local.Goals.{else-kind-list-via-then-kind-list+then-not-local+else-multi, else-kind-list-via-then-kind-list+else-not-local, else-kind-list-via-else-kind-list}
use Rattle.clauses.proofs.list_clause_local.Goals as goal

pub returns-then-multi : goal.returns-then-multi
unfolding list_clause_node
returns-then-multi c = rw (ne_eqb _ _ c.if-kind-list.true, c.if-not-local.true, c.if-multi.true) c.flagged.ensures

pub returns-else-kind-list : goal.returns-else-kind-list
unfolding list_clause_node
returns-else-kind-list c =
    elim c.else-kind-list.branch [
      | else-kind-list-via-then-kind-list+then-not-local+else-multi w ↦ rw (ne_eqb _ _ w.if-kind-list.true, w.if-not-local.true, w.if-multi.false)
      | else-kind-list-via-then-kind-list+else-not-local w ↦ rw (ne_eqb _ _ w.if-kind-list.true, w.if-not-local.false)
      | else-kind-list-via-else-kind-list w ↦ rw (eq-eqb _ _ w.if-kind-list.false)
    ]
