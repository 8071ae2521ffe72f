-- `check_open` meets its contract: where the one test passes, the span ends among the ASCII bytes at the text's start.
use mathlib.Core.Path.{sym, ap, ◌∙◌}
use Rattle.tape.specs.ReadCommands.{placed}
use Rattle.tape.proofs.SpanBounds.{start-open}
use Rattle.tape.proofs.commands.WellFormedText.check_open.Goals as goal

pub returns-then-sound_open : goal.returns-then-sound_open
returns-then-sound_open c = ap (placed _) (start-open c.args.self.known _ c.args.h (sym c.sound_open.ensures ∙ c.if-sound_open.true))
