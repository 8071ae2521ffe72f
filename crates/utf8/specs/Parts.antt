-- What it is for a byte to be part of a well-formed character, said of the text alone and not of how it is cut.
use Rattle.std.specs.Prelude.{ℕ, ◌+◌, ◌≤◌, ◌<◌, List, drop}
use Rattle.utf8.specs.Table.{character_length}

-- a well-formed character begins at or before place p and goes past it
pub record PartOf (text : List ℕ) (p : ℕ) : Type 0 where
  pub start : ℕ
  pub before : start ≤ p
  pub past : p < start + character_length (drop start text)
