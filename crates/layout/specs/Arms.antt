-- What a routine of format_node.rs may see and do. A routine sees a token through `Seen` alone, so it cannot read what is quoted;
-- what it does is a list of acts, and none of them names a place of the text.
use Rattle.std.specs.Prelude.{ℕ, Bool, cond, ◌||◌, List, [], eqb}
use Rattle.context.specs.Cells.{Text, token_text}
use Rattle.tape.specs.Kinds
use Rattle.tape.specs.declared.Head.{Head}
use Rattle.layout.specs.declared.Local.{Local}

-- calls of the context that write no token
pub data Spacing : Type 0 where
  newline space indent dedent : Spacing
  -- note_skipped_whitespace of a text
  note : List ℕ → Spacing
  -- take_pending_blank_line, and a newline if it was set
  blank_line : Spacing
  -- take_pending_blank_line, and a newline if it was set, unless at line start
  blank_line_before_comment : Spacing
  -- take_pending_newline: if it was set a newline, unless at line start; else a space
  line_or_space : Spacing

-- the fixed signs, and their bytes
pub data Sign : Type 0 where
  comma semicolon colon minus opening_round_bracket closing_round_bracket opening_square_bracket closing_square_bracket opening_curly_brace closing_curly_brace : Sign

abbrev pub sign_byte : Sign → ℕ
sign_byte comma = 44
sign_byte semicolon = 59
sign_byte colon = 58
sign_byte minus = 45
sign_byte opening_round_bracket = 40
sign_byte closing_round_bracket = 41
sign_byte opening_square_bracket = 91
sign_byte closing_square_bracket = 93
sign_byte opening_curly_brace = 123
sign_byte closing_curly_brace = 125

-- what is done at a token: a spacing; write_token of its text; write_keyword of its text; write_token of a fixed sign
pub data Act : Type 0 where
  spacing : Spacing → Act
  write_text write_keyword : Act
  write_sign : Sign → Act

-- what a routine sees of a token: its kind, and its text if it is white space, a comment or a bare word
pub record Seen : Type 0 where
  pub kind : ℕ
  pub bytes : List ℕ

abbrev pub is_read : ℕ → Bool
is_read k = eqb k Kinds.Whitespace || eqb k Kinds.Comment || eqb k Kinds.BareWord

unfoldable pub seen : Text → Head → Seen
seen t h = record { kind = h.kind; bytes = cond (is_read h.kind) (token_text t h.start h.end) [] }

-- a routine: its local variables at first; what it does at a token; what it does before and after a child node of a kind that has
-- so many nodes as children; what it does at its end
pub record Arms : Type 0 where
  pub begin : Local
  pub at_token : Local → Seen → Local × List Act
  -- before and after a child node, by its kind and its count_list_items
  pub at_node : Local → ℕ → ℕ → Local × List Spacing × List Spacing
  pub at_end : Local → List Spacing
