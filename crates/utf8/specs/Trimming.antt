-- A text without the white-space characters at its end.
use Rattle.std.specs.Prelude.{ℕ, zero, suc, ◌+◌, Bool, ◌&&◌, ◌||◌, List, length, eqb, leb}
use Rattle.utf8.specs.Pieces.{pieces, all_bytes}
use Rattle.utf8.specs.WhiteSpace.{is_white_space}
use Rattle.utf8.specs.Trim.{trim}

unfoldable pub trimmed : List ℕ → List ℕ
trimmed text = all_bytes (trim is_white_space (pieces text))

unfoldable pub trimmed_length : List ℕ → ℕ
trimmed_length text = length (trimmed text)

-- the trimmed length of n bytes whose own is k, once a text follows whose own is the third number
abbrev pub trimmed_after : ℕ → ℕ → ℕ → ℕ
trimmed_after n k zero = k
trimmed_after n k (suc m) = n + suc m

-- the white space among the ASCII bytes: 9 to 13 and 32
unfoldable pub is_white_byte : ℕ → Bool
is_white_byte b = eqb b 32 || (leb 9 b && leb b 13)
