-- `select_clause_before` meets its contract.
use native.Mathlib.Omega.{arith}
use mathlib.Core.List.{[], ◌∷◌}
use lib.Dec.{eqb}
use Rattle.tape.specs.Kinds.{ColumnList}
use Rattle.layout.specs.Arms.{dedent, indent, newline}
use Rattle.layout.specs.Routines.{format_select_clause}
use Rattle.tokens.proofs.Choices.{before_either}
use Rattle.tokens.proofs.Runs.{spaced}
use Rattle.clauses.proofs.select_clause_before.Goals as goal

pub returns : goal.returns
unfolding format_select_clause
returns c local = spaced 2 _ (omega arith) (before_either local local (newline ∷ indent ∷ []) (dedent ∷ []) [] [] (eqb c.args.kind ColumnList)) c.indent_if.ensures
