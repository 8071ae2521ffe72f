-- What the calls write, and the layout as a whole: `format` of mod.rs.
use Rattle.std.specs.Prelude.{ℕ, Bool, cond, not, ◌&&◌, List, [], ◌∷◌, ◌++◌}
use Rattle.context.specs.Cells.{Text, Cell, fresh, span_cells}
use Rattle.context.specs.Context.{Piece, Step, new_state, write_newline, write_token, write_space, note_skipped_whitespace, take_pending_newline, take_pending_blank_line, write_raw, finish}
use Rattle.context.specs.Context as context
use Rattle.context.specs.declared.FormatConfig.{FormatConfig}
use Rattle.context.specs.declared.State.{State}
use Rattle.tape.specs.Tree.{Children, Tree}
use Rattle.layout.specs.Arms.{Spacing, newline, space, indent, dedent, note, blank_line, blank_line_before_comment, line_or_space, spacing, write_text, write_keyword, write_sign, sign_byte, Arms}
use Rattle.layout.specs.FormatNode.{format_node}
use Rattle.layout.specs.Calls.{Call, put_spacing, act_at, raw, calls}

-- a state, and nothing written
abbrev pub nothing_written : State → Step
nothing_written s = (s, record { lead = []; body = [] })

-- a newline where b holds
abbrev pub newline_if : Bool → State → Step
newline_if b s = cond b (write_newline s) (nothing_written s)

unfoldable pub do_spacing : Spacing → State → Step
do_spacing newline s = write_newline s
do_spacing space s = nothing_written (write_space s)
do_spacing indent s = nothing_written (context.indent s)
do_spacing dedent s = nothing_written (context.dedent s)
do_spacing (note b) s = nothing_written (note_skipped_whitespace b s)
do_spacing blank_line s =
    let taken = take_pending_blank_line s in
    newline_if taken.0 taken.1
do_spacing blank_line_before_comment s =
    let taken = take_pending_blank_line s in
    newline_if (taken.0 && not taken.1.at_line_start) taken.1
do_spacing line_or_space s =
    let taken = take_pending_newline s in
    cond taken.0 (newline_if (not taken.1.at_line_start) taken.1) (nothing_written (write_space taken.1))

-- one call: the next state, and what is written
unfoldable pub step : FormatConfig → Text → Call → State → Step
step config source (put_spacing x) s = do_spacing x s
step config source (act_at h (spacing x)) s = do_spacing x s
step config source (act_at h write_text) s = write_token config (span_cells source h.start h.end) s
step config source (act_at h write_keyword) s = context.write_keyword config (span_cells source h.start h.end) s
step config source (act_at h (write_sign x)) s = write_token config (fresh (sign_byte x) ∷ []) s
step config source (raw start end) s = write_raw (span_cells source start end) s

unfoldable pub pieces : FormatConfig → Text → List Call → State → List Piece
pieces config source [] s = []
pieces config source (c ∷ cs) s =
    let r = step config source c s in
    r.1 ∷ pieces config source cs r.0

-- all that was written
unfoldable pub written : List Piece → List Cell
written [] = []
written (p ∷ ps) = p.lead ++ (p.body ++ written ps)

-- what layouts may differ in: the dispatch, and what is put between pieces
pub record Version : Type 0 where
  pub pick : ℕ → Children → Arms
  pub between : List Piece → List Piece

-- the layout of the source
unfoldable pub original : Version
original = record { pick = format_node; between = λ ps. ps }

unfoldable pub pieces_of : Version → FormatConfig → Text → Tree → List Piece
pieces_of v config source tree = v.between (pieces config source (calls v.pick source tree) new_state)

-- format
unfoldable pub format : Version → FormatConfig → Text → Tree → List Cell
format v config source tree = finish (written (pieces_of v config source tree))
