-- `settings_clause_after` meets its contract.
use mathlib.Core.List.{[], ◌∷◌}
use lib.Dec.{eqb}
use Rattle.tape.specs.Kinds.{SettingList}
use Rattle.layout.specs.Arms.{dedent, indent, newline, space}
use Rattle.layout.specs.Routines.{format_settings_clause}
use Rattle.tokens.proofs.Choices.{after_either, unwritten_as}
use Rattle.clauses.proofs.settings_clause_after.Goals as goal

pub returns : goal.returns
unfolding format_settings_clause
returns c local = unwritten_as _ (after_either local local (newline ∷ indent ∷ []) (dedent ∷ []) (space ∷ []) [] (eqb c.args.kind SettingList)) c.dedent_if.ensures
