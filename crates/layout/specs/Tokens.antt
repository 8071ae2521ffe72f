-- The token helpers of format_node.rs: which tokens take a blank, and what emit_token and emit_comment do.
use Rattle.std.specs.Prelude.{ℕ, Bool, false, cond, not, ◌&&◌, List, [], ◌∷◌, eqb}
use Rattle.basics.specs.Match.{among, match}
use Rattle.keywords.specs.Words.{is_keyword, is_value_keyword}
use Rattle.tape.specs.Kinds
use Rattle.layout.specs.Arms.{Act, spacing, write_text, write_keyword, newline, note, line_or_space, Seen}

-- ── no_space_before

unfoldable pub no_space_before : ℕ → Bool
no_space_before k =
    among k
    (Kinds.Comma
    ∷ Kinds.Semicolon
    ∷ Kinds.ClosingRoundBracket
    ∷ Kinds.ClosingSquareBracket
    ∷ Kinds.ClosingCurlyBrace
    ∷ Kinds.Dot
    ∷ Kinds.DoubleColon
    ∷ [])

-- ── no_space_after

unfoldable pub no_space_after : ℕ → Bool
no_space_after k =
    among k
    (Kinds.OpeningRoundBracket
    ∷ Kinds.OpeningSquareBracket
    ∷ Kinds.OpeningCurlyBrace
    ∷ Kinds.Dot
    ∷ Kinds.DoubleColon
    ∷ Kinds.At
    ∷ Kinds.DoubleAt
    ∷ [])

-- ── note_skipped_whitespace, at a token

abbrev pub note_skipped_whitespace : List ℕ → List Act
note_skipped_whitespace b = spacing (note b) ∷ []

-- ── emit_comment

-- a line comment: its text begins with two hyphens
unfoldable pub is_line_comment : List ℕ → Bool
is_line_comment [] = false
is_line_comment (x ∷ []) = false
is_line_comment (x ∷ y ∷ b) = eqb x 45 && eqb y 45

unfoldable pub emit_comment : List ℕ → List Act
emit_comment b = spacing line_or_space ∷ write_text ∷ cond (is_line_comment b) (spacing newline ∷ []) []

-- ── emit_token

-- a bare word whose case is changed
abbrev pub is_cased : Seen → Bool
is_cased t = eqb t.kind Kinds.BareWord && (is_keyword t.bytes && not (is_value_keyword t.bytes))

unfoldable pub emit_token : Seen → List Act
emit_token t = cond (eqb t.kind Kinds.Whitespace) [] (cond (is_cased t) (write_keyword ∷ []) (write_text ∷ []))

-- ── the arms that most routines share

-- white space, a comment, and any other token
unfoldable pub emit_other : Seen → List Act
emit_other t = match t.kind ((Kinds.Whitespace, note_skipped_whitespace t.bytes) ∷ (Kinds.Comment, emit_comment t.bytes) ∷ []) (emit_token t)

-- ── is_operator

unfoldable pub is_operator : ℕ → Bool
is_operator k =
    among k
    (Kinds.Plus
    ∷ Kinds.Minus
    ∷ Kinds.Star
    ∷ Kinds.Slash
    ∷ Kinds.Percent
    ∷ Kinds.Equals
    ∷ Kinds.NotEquals
    ∷ Kinds.Less
    ∷ Kinds.Greater
    ∷ Kinds.LessOrEquals
    ∷ Kinds.GreaterOrEquals
    ∷ Kinds.Spaceship
    ∷ Kinds.Concatenation
    ∷ [])
