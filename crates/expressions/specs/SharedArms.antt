-- What arms that several routines share do.
use Rattle.std.specs.Prelude.{ℕ, List, [], ◌∷◌}
use Rattle.basics.specs.Match.{match}
use Rattle.tape.specs.Kinds
use Rattle.layout.specs.Arms.{Act, spacing, space, Sign, write_sign, comma, opening_round_bracket, closing_round_bracket, opening_square_bracket, closing_square_bracket, opening_curly_brace, closing_curly_brace, Seen}
use Rattle.layout.specs.Tokens.{note_skipped_whitespace, emit_token}
use Rattle.expressions.specs.declared.Brackets.{Brackets}
use Rattle.expressions.specs.declared.Brackets.TheVariants.{Round, Square, Curly}

-- the kind of the token that opens the list, and its sign
abbrev pub opening : Brackets → ℕ × Sign
opening Round = (Kinds.OpeningRoundBracket, opening_round_bracket)
opening Square = (Kinds.OpeningSquareBracket, opening_square_bracket)
opening Curly = (Kinds.OpeningCurlyBrace, opening_curly_brace)

-- the same of the token that closes it
abbrev pub closing : Brackets → ℕ × Sign
closing Round = (Kinds.ClosingRoundBracket, closing_round_bracket)
closing Square = (Kinds.ClosingSquareBracket, closing_square_bracket)
closing Curly = (Kinds.ClosingCurlyBrace, closing_curly_brace)

-- a list between brackets, without a comment arm
abbrev pub list_token : Brackets → Seen → List Act
list_token b t =
    match t.kind
    ((Kinds.Whitespace, note_skipped_whitespace t.bytes)
    ∷ (Kinds.Comma, write_sign comma ∷ spacing space ∷ [])
    ∷ ((opening b).0, write_sign (opening b).1 ∷ [])
    ∷ ((closing b).0, write_sign (closing b).1 ∷ [])
    ∷ [])
    (emit_token t)
