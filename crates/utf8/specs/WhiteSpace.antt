-- The characters with the property White_Space: PropList.txt of the Unicode Character Database, line by line.
use Rattle.std.specs.Prelude.{ℕ, zero, suc, ◌+◌, ◌-◌, ◌/◌, ◌%◌, Bool, cond, false, List, [], ◌∷◌, ◌++◌, map, ltb}
use Rattle.basics.specs.Bytes.{listed}
use Rattle.utf8.specs.Table.{Range, ◌‥◌}
use Rattle.utf8.specs.Pieces.{Piece, character, stray}

abbrev pub white_space : List Range
white_space =
    0x0009 ‥ 0x000D
    ∷ 0x0020 ‥ 0x0020
    ∷ 0x0085 ‥ 0x0085
    ∷ 0x00A0 ‥ 0x00A0
    ∷ 0x1680 ‥ 0x1680
    ∷ 0x2000 ‥ 0x200A
    ∷ 0x2028 ‥ 0x2028
    ∷ 0x2029 ‥ 0x2029
    ∷ 0x202F ‥ 0x202F
    ∷ 0x205F ‥ 0x205F
    ∷ 0x3000 ‥ 0x3000
    ∷ []

-- n numbers from k on
abbrev pub counted : ℕ → ℕ → List ℕ
counted zero k = []
counted (suc n) k = k ∷ counted n (suc k)

abbrev pub code_points : List Range → List ℕ
code_points [] = []
code_points (r ∷ rs) = counted (suc r.high - r.low) r.low ++ code_points rs

-- the bytes of a code point: the Unicode Standard, table 3-6
abbrev pub encode : ℕ → List ℕ
encode u =
    cond (ltb u 0x80) (u ∷ [])
    (cond (ltb u 0x800) ((0xC0 + u / 64) ∷ (0x80 + u % 64) ∷ [])
    (cond (ltb u 0x10000) ((0xE0 + u / 4096) ∷ (0x80 + u / 64 % 64) ∷ (0x80 + u % 64) ∷ [])
    ((0xF0 + u / 262144) ∷ (0x80 + u / 4096 % 64) ∷ (0x80 + u / 64 % 64) ∷ (0x80 + u % 64) ∷ [])))

abbrev pub white_characters : List (List ℕ)
white_characters = map encode (code_points white_space)

unfoldable pub is_white_space : Piece → Bool
is_white_space (character c) = listed c white_characters
is_white_space (stray b) = false
