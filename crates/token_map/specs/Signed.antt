-- When a routine writes each token once, in the way that its `Signs` say.
use Rattle.std.specs.Prelude.{◌≡◌, Bool, true, false, ◌&&◌, ◌||◌, List, [], ◌∷◌, eqb}
use Rattle.tape.specs.Kinds
use Rattle.layout.specs.declared.Local.{Local}
use Rattle.layout.specs.Arms.{Spacing, newline, space, indent, dedent, note, blank_line, blank_line_before_comment, line_or_space, Act, spacing, write_text, write_keyword, write_sign, Seen, Arms}
use Rattle.layout.specs.Tokens.{is_line_comment}
use Rattle.token_map.specs.declared.Signs.{Signs}
use Rattle.token_map.specs.declared.Written.{Written}
use Rattle.token_map.specs.declared.Written.TheVariants as written
use Rattle.token_map.specs.Signs.{written_as}

-- a spacing that writes nothing in any state
abbrev pub is_quiet : Spacing → Bool
is_quiet newline = false
is_quiet space = true
is_quiet indent = true
is_quiet dedent = true
is_quiet (note b) = true
is_quiet blank_line = false
is_quiet blank_line_before_comment = false
is_quiet line_or_space = false

-- spacings that pass a test, and no write
abbrev pub only_spacing : (Spacing → Bool) → List Act → Bool
only_spacing test [] = true
only_spacing test (spacing x ∷ xs) = test x && only_spacing test xs
only_spacing test (write_text ∷ xs) = false
only_spacing test (write_keyword ∷ xs) = false
only_spacing test (write_sign x ∷ xs) = false

-- spacings, one fixed sign, spacings
abbrev pub sign_once : List Act → Bool
sign_once [] = false
sign_once (spacing x ∷ xs) = sign_once xs
sign_once (write_text ∷ xs) = false
sign_once (write_keyword ∷ xs) = false
sign_once (write_sign x ∷ xs) = only_spacing (λ _. true) xs

-- spacings, the token's text once, spacings that pass the test
abbrev pub text_once : (Spacing → Bool) → List Act → Bool
text_once test [] = false
text_once test (spacing x ∷ xs) = text_once test xs
text_once test (write_text ∷ xs) = only_spacing test xs
text_once test (write_keyword ∷ xs) = only_spacing test xs
text_once test (write_sign x ∷ xs) = false

-- acts for a token that is written so: after its text something is written only if it is a line comment
abbrev pub fits : Written → Bool → List Act → Bool
fits written.Nothing line acts = only_spacing is_quiet acts
fits written.Text line acts = text_once (λ x. line || is_quiet x) acts
fits written.Sign line acts = sign_once acts

abbrev pub is_line : Seen → Bool
is_line t = eqb t.kind Kinds.Comment && is_line_comment t.bytes

pub record Signed (s : Signs) (r : Arms) : Type 0 where
  pub each : (l : Local) (t : Seen) → fits (written_as s t.kind) (is_line t) (r.at_token l t).1 ≡ true
