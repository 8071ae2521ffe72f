-- `check_token` meets its contract: where the one test passes, the span ends among the ASCII bytes at the text's start.
use mathlib.Core.Path.{sym, ap, ◌∙◌}
use Rattle.tape.specs.ReadCommands.{placed}
use Rattle.tape.proofs.SpanBounds.{start-token}
use Rattle.tape.proofs.commands.WellFormedText.check_token.Goals as goal

pub returns-then-sound_token : goal.returns-then-sound_token
returns-then-sound_token c = ap (placed _) (start-token c.args.self.known c.args.t (sym c.sound_token.ensures ∙ c.if-sound_token.true))
