-- What the helpers of the code answer, and which second bytes table 3-7 has. No contract of a public function names these: the table and the list of white space do not rest on them.
use Rattle.std.specs.Prelude.{ℕ, zero, suc, Bool, cond, false, ◌&&◌, ◌||◌, List, [], ◌∷◌, length, eqb, Option, Some, None}
use Rattle.utf8.specs.Table.{Range, ◌‥◌, holds}
use Rattle.utf8.specs.Pieces.{Piece, bytes_of}
use Rattle.utf8.specs.WhiteSpace.{is_white_space}
use Rattle.utf8.specs.Trimming.{is_white_byte}

-- the second byte's range where the first is one of E0 to F4
abbrev pub second_after : ℕ → Range
second_after a =
    cond (eqb a 0xE0) (0xA0 ‥ 0xBF)
    (cond (eqb a 0xED) (0x80 ‥ 0x9F)
    (cond (eqb a 0xF0) (0x90 ‥ 0xBF)
    (cond (eqb a 0xF4) (0x80 ‥ 0x8F)
    (0x80 ‥ 0xBF))))

unfoldable pub is_second : ℕ → ℕ → Bool
is_second a b = holds (second_after a) b

-- white space of two bytes: U+0085 and U+00A0
unfoldable pub white_pair : ℕ → ℕ → Bool
white_pair a b = eqb a 0xC2 && (eqb b 0x85 || eqb b 0xA0)

-- after E2 80: U+2000 to U+200A, U+2028, U+2029 and U+202F
unfoldable pub white_last : ℕ → Bool
white_last c = holds (0x80 ‥ 0x8A) c || (eqb c 0xA8 || (eqb c 0xA9 || eqb c 0xAF))

-- white space of three bytes: these, and U+205F, U+1680 and U+3000
unfoldable pub white_triple : ℕ → ℕ → ℕ → Bool
white_triple a b c =
    cond (eqb a 0xE2) (cond (eqb b 0x80) (white_last c) (eqb b 0x81 && eqb c 0x9F))
    (cond (eqb a 0xE1) (eqb b 0x9A && eqb c 0x80) (eqb a 0xE3 && (eqb b 0x80 && eqb c 0x80)))

-- white space by its bytes
abbrev pub white_bytes : List ℕ → Bool
white_bytes [] = false
white_bytes (a ∷ []) = is_white_byte a
white_bytes (a ∷ b ∷ []) = white_pair a b
white_bytes (a ∷ b ∷ c ∷ []) = white_triple a b c
white_bytes (a ∷ b ∷ c ∷ d ∷ bs) = false

-- the length of the white-space character that ends a list of pieces, or 0
unfoldable pub end_white : List Piece → ℕ
end_white [] = 0
end_white (p ∷ []) = cond (is_white_space p) (length (bytes_of p)) 0
end_white (p ∷ q ∷ ps) = end_white (q ∷ ps)

-- a length, or none in place of 0
abbrev pub unless_zero : ℕ → Option ℕ
unless_zero zero = None
unless_zero (suc n) = Some (suc n)
