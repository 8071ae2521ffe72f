-- context.rs: what each method of FormatterContext does to the state and writes, in the source's order, and `finish`.
use Rattle.std.specs.Prelude.{ℕ, suc, pred, ◌-◌, ◌*◌, Bool, true, false, cond, ◌||◌, List, [], ◌∷◌, ◌++◌, map, get_or, length, replicate, take, leb, eqb}
use Rattle.utf8.specs.Trimming.{trimmed_length}
use Rattle.context.specs.Cells.{Cell, bytes_of, fresh, cell_in_case, count}
use Rattle.context.specs.declared.FormatConfig.{FormatConfig}
use Rattle.context.specs.declared.State.{State}

-- what one call writes: what is put before its text, and the text
pub record Piece : Type 0 where
  pub lead : List Cell
  pub body : List Cell

-- the next state, and what was written
abbrev pub Step : Type 0
Step = State × Piece

abbrev pub new_state : State
new_state =
    record {
      indent_level = 0;
      at_line_start = true;
      needs_space = false;
      pending_newline = false;
      pending_blank_line = false;
    }

-- every write leaves no blank wanted and both marks cleared
abbrev pub after_write : Bool → State → State
after_write line_start s =
    record {
      indent_level = s.indent_level;
      at_line_start = line_start;
      needs_space = false;
      pending_newline = false;
      pending_blank_line = false;
    }

unfoldable pub write_newline : State → Step
write_newline s = (after_write true s, record { lead = []; body = fresh 10 ∷ [] })

abbrev pub write_indent : FormatConfig → State → List Cell
write_indent config s = replicate (s.indent_level * config.indent_width) (fresh 32)

-- what stands before a token: the indent at line start, else the wanted blank
unfoldable pub lead : FormatConfig → State → List Cell
lead config s = cond s.at_line_start (write_indent config s) (cond s.needs_space (fresh 32 ∷ []) [])

unfoldable pub write_token : FormatConfig → List Cell → State → Step
write_token config text s = (after_write false s, record { lead = lead config s; body = text })

unfoldable pub write_keyword : FormatConfig → List Cell → State → Step
write_keyword config text s = write_token config (map (cell_in_case config.uppercase_keywords) text) s

unfoldable pub write_space : State → State
write_space s =
    record {
      indent_level = s.indent_level;
      at_line_start = s.at_line_start;
      needs_space = cond s.at_line_start s.needs_space true;
      pending_newline = s.pending_newline;
      pending_blank_line = s.pending_blank_line;
    }

abbrev pub with_pending : Bool → Bool → State → State
with_pending newline blank_line s =
    record {
      indent_level = s.indent_level;
      at_line_start = s.at_line_start;
      needs_space = s.needs_space;
      pending_newline = newline;
      pending_blank_line = blank_line;
    }

unfoldable pub note_skipped_whitespace : List ℕ → State → State
note_skipped_whitespace text s =
    with_pending (leb 1 (count 10 text) || s.pending_newline) (leb 2 (count 10 text) || s.pending_blank_line) s

-- the mark, and the state without it
unfoldable pub take_pending_newline : State → Bool × State
take_pending_newline s = (s.pending_newline, with_pending false s.pending_blank_line s)

unfoldable pub take_pending_blank_line : State → Bool × State
take_pending_blank_line s = (s.pending_blank_line, with_pending s.pending_newline false s)

abbrev pub with_level : ℕ → State → State
with_level n s =
    record {
      indent_level = n;
      at_line_start = s.at_line_start;
      needs_space = s.needs_space;
      pending_newline = s.pending_newline;
      pending_blank_line = s.pending_blank_line;
    }

unfoldable pub indent : State → State
indent s = with_level (suc s.indent_level) s

-- at 0 it stays 0
unfoldable pub dedent : State → State
dedent s = with_level (pred s.indent_level) s

-- 0 where there is none
abbrev pub last_byte : List ℕ → ℕ
last_byte bs = get_or bs (length bs - 1) 0

abbrev pub ends_in_newline : List ℕ → Bool
ends_in_newline bs = eqb (last_byte bs) 10

unfoldable pub write_raw : List Cell → State → Step
write_raw text s = (after_write (ends_in_newline (bytes_of text)) s, record { lead = []; body = text })

-- without the white-space characters at the end
unfoldable pub trim_end : List Cell → List Cell
trim_end cs = take (trimmed_length (bytes_of cs)) cs

abbrev pub end_line : List Cell → List Cell
end_line [] = []
end_line (c ∷ cs) = (c ∷ cs) ++ (fresh 10 ∷ [])

-- without trailing white space; what is not empty then ends in one newline
unfoldable pub finish : List Cell → List Cell
finish cs = end_line (trim_end cs)
