-- What a routine writes for a token, by the token's kind: nothing, its text, or a fixed sign.
use Rattle.std.specs.Prelude.{ℕ, ◌+◌, ◌-◌, cond, ◌||◌, List, [], ◌∷◌, length, eqb}
use Rattle.basics.specs.Match.{among}
use Rattle.utf8.specs.Trimming.{trimmed_length}
use Rattle.context.specs.Cells.{Text, token_text}
use Rattle.context.specs.declared.Position.{Position}
use Rattle.tape.specs.Kinds
use Rattle.tape.specs.declared.Head.{Head}
use Rattle.token_map.specs.declared.Signs.{Signs}
use Rattle.token_map.specs.declared.Signs.TheVariants as signs
use Rattle.token_map.specs.declared.Written.{Written}
use Rattle.token_map.specs.declared.Written.TheVariants as written

-- the kinds for which a fixed sign is written
abbrev pub sign_kinds : Signs → List ℕ
sign_kinds signs.Nothing = []
sign_kinds signs.Semicolon = Kinds.Semicolon ∷ []
sign_kinds signs.NoSemicolon = []
sign_kinds signs.Comma = Kinds.Comma ∷ []
sign_kinds signs.Minus = Kinds.Minus ∷ []
sign_kinds signs.RoundBrackets = Kinds.OpeningRoundBracket ∷ Kinds.ClosingRoundBracket ∷ []
sign_kinds signs.CommaRoundBrackets = Kinds.Comma ∷ Kinds.OpeningRoundBracket ∷ Kinds.ClosingRoundBracket ∷ []
sign_kinds signs.CommaSquareBrackets = Kinds.Comma ∷ Kinds.OpeningSquareBracket ∷ Kinds.ClosingSquareBracket ∷ []
sign_kinds signs.CommaColonCurlyBraces = Kinds.Comma ∷ Kinds.Colon ∷ Kinds.OpeningCurlyBrace ∷ Kinds.ClosingCurlyBrace ∷ []

-- the kinds for which nothing is written, besides Whitespace
abbrev pub dropped_kinds : Signs → List ℕ
dropped_kinds signs.Nothing = []
dropped_kinds signs.Semicolon = []
dropped_kinds signs.NoSemicolon = Kinds.Semicolon ∷ []
dropped_kinds signs.Comma = []
dropped_kinds signs.Minus = []
dropped_kinds signs.RoundBrackets = []
dropped_kinds signs.CommaRoundBrackets = []
dropped_kinds signs.CommaSquareBrackets = []
dropped_kinds signs.CommaColonCurlyBraces = []

unfoldable pub written_as : Signs → ℕ → Written
written_as s k =
    cond (eqb k Kinds.Whitespace || among k (dropped_kinds s)) written.Nothing (cond (among k (sign_kinds s)) written.Sign written.Text)

-- The place of what was written last, from the position after it. Only white space can have followed: a sign is the last byte that trimming leaves; so
-- is the last byte of what trimming leaves of the text; after a text of white space nothing was written
unfoldable pub place_as : Written → List ℕ → Position → ℕ
place_as written.Nothing t p = 0
place_as written.Sign t p = p.trimmed
place_as written.Text t p = cond (eqb (trimmed_length t) 0) (p.length - length t + 1) (p.trimmed - trimmed_length t + 1)

-- the place of a token of the kind with the text, from the position after its arm; none for an empty text
unfoldable pub place_from : Signs → ℕ → Text → Position → ℕ
place_from s k t p = cond (eqb (length t) 0) 0 (place_as (written_as s k) t p)

-- the same of a token in a text
unfoldable pub place_by : Signs → Text → Head → Position → ℕ
place_by s text h p = cond (eqb h.start h.end) 0 (place_as (written_as s h.kind) (token_text text h.start h.end) p)
