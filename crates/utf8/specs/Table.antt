-- Well-formed UTF-8 byte sequences: the Unicode Standard, table 3-7, row by row.
use Rattle.std.specs.Prelude.{ℕ, Bool, cond, true, false, ◌&&◌, List, [], ◌∷◌, length, leb, ltb}

pub record Range : Type 0 where
  pub low : ℕ
  pub high : ℕ

-- from low to high, both counted in
infix 90 ◌‥◌
abbrev pub ◌‥◌ : ℕ → ℕ → Range
◌‥◌ low high = record { low = low; high = high }

unfoldable pub holds : Range → ℕ → Bool
holds r b = leb r.low b && leb b r.high

abbrev pub Row : Type 0
Row = List Range

-- first, second, third and fourth byte
abbrev pub rows : List Row
rows =
    -- U+0000 to U+007F
    (0x00 ‥ 0x7F ∷ [])
    -- U+0080 to U+07FF
    ∷ (0xC2 ‥ 0xDF ∷ 0x80 ‥ 0xBF ∷ [])
    -- U+0800 to U+0FFF
    ∷ (0xE0 ‥ 0xE0 ∷ 0xA0 ‥ 0xBF ∷ 0x80 ‥ 0xBF ∷ [])
    -- U+1000 to U+CFFF
    ∷ (0xE1 ‥ 0xEC ∷ 0x80 ‥ 0xBF ∷ 0x80 ‥ 0xBF ∷ [])
    -- U+D000 to U+D7FF
    ∷ (0xED ‥ 0xED ∷ 0x80 ‥ 0x9F ∷ 0x80 ‥ 0xBF ∷ [])
    -- U+E000 to U+FFFF
    ∷ (0xEE ‥ 0xEF ∷ 0x80 ‥ 0xBF ∷ 0x80 ‥ 0xBF ∷ [])
    -- U+10000 to U+3FFFF
    ∷ (0xF0 ‥ 0xF0 ∷ 0x90 ‥ 0xBF ∷ 0x80 ‥ 0xBF ∷ 0x80 ‥ 0xBF ∷ [])
    -- U+40000 to U+FFFFF
    ∷ (0xF1 ‥ 0xF3 ∷ 0x80 ‥ 0xBF ∷ 0x80 ‥ 0xBF ∷ 0x80 ‥ 0xBF ∷ [])
    -- U+100000 to U+10FFFF
    ∷ (0xF4 ‥ 0xF4 ∷ 0x80 ‥ 0x8F ∷ 0x80 ‥ 0xBF ∷ 0x80 ‥ 0xBF ∷ [])
    ∷ []

-- whether the bytes begin with one of each range
abbrev pub fits : Row → List ℕ → Bool
fits [] bytes = true
fits (r ∷ rs) [] = false
fits (r ∷ rs) (b ∷ bs) = holds r b && fits rs bs

abbrev pub length_by : List Row → List ℕ → ℕ
length_by [] bytes = 0
length_by (row ∷ more) bytes = cond (fits row bytes) (length row) (length_by more bytes)

-- the length of the well-formed character that the bytes begin with; 0: they begin with none
unfoldable pub character_length : List ℕ → ℕ
character_length bytes = length_by rows bytes

-- whether every byte is below 128
abbrev pub is_ascii : List ℕ → Bool
is_ascii [] = true
is_ascii (b ∷ bs) = ltb b 0x80 && is_ascii bs
