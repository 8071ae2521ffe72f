-- `case_expression_before` meets its contract.
use native.Mathlib.Omega.{arith}
use mathlib.Core.List.{[], ◌∷◌}
use lib.Dec.{eqb}
use Rattle.tape.specs.Kinds.{WhenClause}
use Rattle.layout.specs.Arms.{newline}
use Rattle.layout.specs.Routines.{format_case_expression}
use Rattle.tokens.proofs.Choices.{before_either}
use Rattle.tokens.proofs.Runs.{spaced}
use Rattle.expressions.proofs.case_expression_before.Goals as goal

pub returns : goal.returns
unfolding format_case_expression
returns c local = spaced 1 _ (omega arith) (before_either local local (newline ∷ []) [] [] [] (eqb c.args.kind WhenClause)) c.newline_if.ensures
