-- Each small input is answered as its row says.
use lib.Dec.{T}
use Rattle.basics.specs.Bytes.{token_text}
use Rattle.utf8.specs.Table.{holds, character_length}
use Rattle.utf8.specs.Pieces.{cut, first_ill_formed}
use Rattle.tape.specs.Kinds.{not_carried}
use Rattle.tape.specs.Tape.{head_at, command_at, check_open, check_token, checked_at, read_children, read_tape}
use Rattle.tape.specs.Call.{read_input, read_call}
use Rattle.tape.specs.ReadingInputs.{hold, small_inputs}

pub samples : T (hold small_inputs)
unfolding token_text holds character_length cut first_ill_formed not_carried head_at command_at check_open check_token checked_at read_children read_tape read_input read_call
samples = tt
