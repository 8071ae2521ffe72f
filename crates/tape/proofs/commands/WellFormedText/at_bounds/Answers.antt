-- `at_bounds` meets its contract: in a well-formed text a place lies inside a character where its byte is one of 80 to BF.
use mathlib.Core.Path.{ap₂, ◌∙◌}
use mathlib.Core.Bool.{◌&&◌}
use Rattle.tape.proofs.SpanBounds.{at_bounds}
use Rattle.tape.proofs.commands.WellFormedText.at_bounds.Goals as goal

pub returns : goal.returns
returns c = ap₂ (λ s t. s && t) c.is_boundary.ensures c.is_boundary-2.ensures ∙ at_bounds _ c.args.self.known.well_formed c.args.h
