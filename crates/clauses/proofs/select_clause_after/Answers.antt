-- `select_clause_after` meets its contract.
use mathlib.Core.List.{[], ◌∷◌}
use lib.Dec.{eqb}
use Rattle.tape.specs.Kinds.{ColumnList}
use Rattle.layout.specs.Arms.{dedent, indent, newline}
use Rattle.layout.specs.Routines.{format_select_clause}
use Rattle.tokens.proofs.Choices.{after_either, unwritten_as}
use Rattle.clauses.proofs.select_clause_after.Goals as goal

pub returns : goal.returns
unfolding format_select_clause
returns c local = unwritten_as _ (after_either local local (newline ∷ indent ∷ []) (dedent ∷ []) [] [] (eqb c.args.kind ColumnList)) c.dedent_if.ensures
