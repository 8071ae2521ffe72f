-- Each sample is as its row says.
use mathlib.Core.Path.{◌≡◌, refl}
use mathlib.Core.Bool.{true}
use Rattle.basics.specs.Bytes.{same, listed}
use Rattle.utf8.specs.Table.{holds, character_length}
use Rattle.utf8.specs.Pieces.{cut, first_ill_formed}
use Rattle.utf8.specs.WhiteSpace.{is_white_space}
use Rattle.utf8.specs.Trim.{trim}
use Rattle.utf8.specs.Trimming.{trimmed, trimmed_length}
use Rattle.utf8.specs.Samples.{samples, hold, ends, encoded}

pub samples-hold : hold samples ≡ true
unfolding same listed holds character_length cut first_ill_formed is_white_space trim trimmed trimmed_length
samples-hold = refl

pub ends-encoded : encoded ends ≡ true
unfolding holds character_length
ends-encoded = refl
