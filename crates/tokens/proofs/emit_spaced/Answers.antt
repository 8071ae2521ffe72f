-- `emit_spaced` meets its contract.
use native.Mathlib.Omega.{arith}
use mathlib.Core.Path.{refl}
use Rattle.tokens.proofs.Choices.{as_spaced, spaced-as}
use Rattle.tokens.proofs.Runs.{acted, as_acts, then}
use Rattle.tokens.proofs.emit_spaced.Goals as goal

pub returns : goal.returns
returns c = acted 1 _ (omega arith) (spaced-as _ c.args.wanted _ refl) (then (as_acts (as_spaced c.space_if-a.ensures)) c.emit_token.ensures)
