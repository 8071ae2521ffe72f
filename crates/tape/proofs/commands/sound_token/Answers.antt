-- `sound_token` meets its contract: the three tests in one.
use Rattle.tape.proofs.KnownCommands.{sound-token}
use Rattle.tape.proofs.commands.sound_token.Goals as goal

pub returns : goal.returns
returns c = sound-token _ c.args.t
