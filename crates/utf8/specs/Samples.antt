-- Worked examples: a text, the place of its first ill-formed byte, its trimmed length.
use Rattle.std.specs.Prelude.{ℕ, Bool, true, false, ◌&&◌, List, [], ◌∷◌, length, eqb, Option, Some, None}
use Rattle.utf8.specs.Table.{character_length}
use Rattle.utf8.specs.Pieces.{first_ill_formed}
use Rattle.utf8.specs.WhiteSpace.{encode}
use Rattle.utf8.specs.Trimming.{trimmed_length}

pub record Sample : Type 0 where
  pub text : List ℕ
  pub place : Option ℕ
  pub trimmed : ℕ

abbrev pub row : List ℕ → Option ℕ → ℕ → Sample
row text place trimmed = record { text = text; place = place; trimmed = trimmed }

abbrev pub samples : List Sample
samples =
    row [] None 0
    -- A, U+00E9, U+20AC, U+1D11E
    ∷ row (0x41 ∷ 0xC3 ∷ 0xA9 ∷ 0xE2 ∷ 0x82 ∷ 0xAC ∷ 0xF0 ∷ 0x9D ∷ 0x84 ∷ 0x9E ∷ []) None 10
    -- the surrogate U+D800, and the last character before the surrogates
    ∷ row (0x41 ∷ 0xED ∷ 0xA0 ∷ 0x80 ∷ []) (Some 1) 4
    ∷ row (0xED ∷ 0x9F ∷ 0xBF ∷ []) None 3
    -- overlong: a solidus in two bytes, U+07FF in three, U+FFFF in four
    ∷ row (0xC0 ∷ 0xAF ∷ []) (Some 0) 2
    ∷ row (0xE0 ∷ 0x9F ∷ 0xBF ∷ []) (Some 0) 3
    ∷ row (0xF0 ∷ 0x8F ∷ 0xBF ∷ 0xBF ∷ []) (Some 0) 4
    -- the last code point, and what would be the next
    ∷ row (0xF4 ∷ 0x8F ∷ 0xBF ∷ 0xBF ∷ []) None 4
    ∷ row (0xF4 ∷ 0x90 ∷ 0x80 ∷ 0x80 ∷ []) (Some 0) 4
    -- cut short, at the end and before another character: the place is the first byte's
    ∷ row (0x41 ∷ 0xE2 ∷ 0x82 ∷ []) (Some 1) 3
    ∷ row (0xE2 ∷ 0x82 ∷ 0x41 ∷ []) (Some 0) 3
    -- a later byte alone
    ∷ row (0xC3 ∷ 0xA9 ∷ 0xA9 ∷ []) (Some 2) 3
    -- white space: U+0085, U+00A0, U+2003, U+3000, a blank; byte 85 alone is none
    ∷ row (0x41 ∷ 0xC2 ∷ 0x85 ∷ 0xC2 ∷ 0xA0 ∷ 0xE2 ∷ 0x80 ∷ 0x83 ∷ 0xE3 ∷ 0x80 ∷ 0x80 ∷ 0x20 ∷ []) None 1
    ∷ row (0x41 ∷ 0x85 ∷ []) (Some 1) 2
    -- U+0105 ends in byte 85 and U+2060 in A0: no white space, and so is U+200B
    ∷ row (0xC4 ∷ 0x85 ∷ []) None 2
    ∷ row (0xE2 ∷ 0x81 ∷ 0xA0 ∷ []) None 3
    ∷ row (0x20 ∷ 0xE2 ∷ 0x80 ∷ 0x8B ∷ 0x09 ∷ []) None 4
    ∷ []

abbrev pub same_place : Option ℕ → Option ℕ → Bool
same_place None None = true
same_place None (Some q) = false
same_place (Some p) None = false
same_place (Some p) (Some q) = eqb p q

abbrev pub hold : List Sample → Bool
hold [] = true
hold (s ∷ ss) = same_place (first_ill_formed 0 s.text) s.place && eqb (trimmed_length s.text) s.trimmed && hold ss

-- the first and last code point of each row of table 3-7: table 3-6 gives their bytes, and these are one character
abbrev pub ends : List ℕ
ends =
    0x0000 ∷ 0x007F
    ∷ 0x0080 ∷ 0x07FF
    ∷ 0x0800 ∷ 0x0FFF
    ∷ 0x1000 ∷ 0xCFFF
    ∷ 0xD000 ∷ 0xD7FF
    ∷ 0xE000 ∷ 0xFFFF
    ∷ 0x10000 ∷ 0x3FFFF
    ∷ 0x40000 ∷ 0xFFFFF
    ∷ 0x100000 ∷ 0x10FFFF
    ∷ []

abbrev pub encoded : List ℕ → Bool
encoded [] = true
encoded (u ∷ us) = eqb (character_length (encode u)) (length (encode u)) && encoded us
