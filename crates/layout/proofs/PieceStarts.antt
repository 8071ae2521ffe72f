-- Where each span of a tree begins at a character's bound, so does each piece of its layout, and what is left of the layout from any piece on.
use Prim.Native.Nat.{ℕ, zero, suc, ◌*◌}
use mathlib.Core.Path.{refl, sym, ◌∙◌, subst}
use mathlib.Core.Bool.{Bool, true, false, cond, not, ◌&&◌}
use mathlib.Core.List.{List, [], ◌∷◌, ◌++◌, map}
use lib.ListN.{replicate}
use Rattle.utf8.specs.Table.{holds}
use Rattle.utf8.specs.Pieces.{is_trailing, Starts}
use Rattle.context.specs.Cells.{Text, Cell, bytes_of, fresh, token_text, span_cells, to_case}
use Rattle.context.specs.Context.{Piece, Step, lead, write_newline, write_token, write_raw, write_space, take_pending_newline, take_pending_blank_line}
use Rattle.context.specs.Context as context
use Rattle.context.specs.declared.FormatConfig.{FormatConfig}
use Rattle.context.specs.declared.State.{State}
use Rattle.context.proofs.Bytes.{bytes-span, bytes-in_case, trailing_in_case}
use Rattle.tape.specs.declared.Head.{Head}
use Rattle.tape.specs.SpelledAt.{AcceptedCall}
use Rattle.tape.proofs.Trees.{each-token, each-node}
use Rattle.tape.proofs.SpanBounds.{token-starts, node-starts}
use Rattle.layout.specs.Arms.{Sign, comma, sign_byte, Spacing, newline, blank_line, blank_line_before_comment, line_or_space, spacing, write_text, write_keyword, write_sign}
use Rattle.layout.specs.Calls.{Call, put_spacing, act_at, raw}
use Rattle.layout.specs.Layout.{nothing_written, newline_if, do_spacing, step, pieces, written}
use Rattle.layout.specs.SpanStarts.{SpansStart}
use Rattle.layout.proofs.EachCall.{Every, reached_copy}

pub starts-append : (xs ys : List ℕ) → Starts xs → Starts ys → Starts (xs ++ ys)
starts-append [] ys u v = v
starts-append (x ∷ xs) ys u v = u

-- the same of cells
pub starts-cells : (X Y : List Cell) → Starts (bytes_of X) → Starts (bytes_of Y) → Starts (bytes_of (X ++ Y))
starts-cells [] Y u v = v
starts-cells (c ∷ X) Y u v = u

-- ── one piece

abbrev pub PieceStarts : Piece → Type 0
PieceStarts p = Starts (bytes_of p.lead) × Starts (bytes_of p.body)

pub none-starts : Starts []
unfolding is_trailing holds
none-starts = refl

-- what holds of a newline and of nothing holds of all spacing
module _ (P : Step → Type 0) (f : (s : State) → P (write_newline s)) (g : (s : State) → P (nothing_written s)) where
  each-newline_if : (b : Bool) (s : State) → P (newline_if b s)
  each-newline_if true s = f s
  each-newline_if false s = g s

  pub each-spacing : (x : Spacing) (s : State) → P (do_spacing x s)
  unfolding do_spacing
  each-spacing newline s = f s
  each-spacing blank_line s = each-newline_if (take_pending_blank_line s).0 (take_pending_blank_line s).1
  each-spacing blank_line_before_comment s = each-newline_if ((take_pending_blank_line s).0 && not (take_pending_blank_line s).1.at_line_start) (take_pending_blank_line s).1
  each-spacing line_or_space s = go (take_pending_newline s).0 (take_pending_newline s).1
    where
      go : (b : Bool) (r : State) → P (cond b (newline_if (not r.at_line_start) r) (nothing_written (write_space r)))
      go true r = each-newline_if (not r.at_line_start) r
      go false r = g (write_space r)
  each-spacing _ s = g _

pub spacing-starts : (x : Spacing) (s : State) → PieceStarts (do_spacing x s).1
unfolding write_newline is_trailing holds
spacing-starts = each-spacing (λ r. PieceStarts r.1) (λ s. (refl, refl)) (λ s. (refl, refl))

blanks-start : (n : ℕ) → Starts (bytes_of (replicate n (fresh 32)))
unfolding is_trailing holds
blanks-start zero = refl
blanks-start (suc n) = refl

-- what holds of blanks holds of what stands before a token
pub each-lead : (P : List Cell → Type 0) → ((n : ℕ) → P (replicate n (fresh 32))) → (config : FormatConfig) (s : State) → P (lead config s)
unfolding lead
each-lead P f config s = go s.at_line_start s.needs_space
  where
    go : (b c : Bool) → P (cond b (replicate (s.indent_level * config.indent_width) (fresh 32)) (cond c (fresh 32 ∷ []) []))
    go true c = f (s.indent_level * config.indent_width)
    go false true = f 1
    go false false = f 0

pub lead-starts : (config : FormatConfig) (s : State) → Starts (bytes_of (lead config s))
lead-starts = each-lead (λ X. Starts (bytes_of X)) blanks-start

pub sign_starts : (x : Sign) → Starts (sign_byte x ∷ [])
unfolding is_trailing holds
sign_starts comma = refl
sign_starts _ = refl

pub starts-in_case : (u : Bool) (bs : List ℕ) → Starts bs → Starts (map (to_case u) bs)
starts-in_case u [] h = h
starts-in_case u (b ∷ bs) h = trailing_in_case u b ∙ h

-- ── the pieces of calls

module _ (config : FormatConfig) (source : Text) where
  abbrev pub StartsAt : ℕ → ℕ → Type 0
  StartsAt s e = Starts (token_text source s e)

  abbrev pub TokenStarts : Head → Type 0
  TokenStarts h = StartsAt h.start h.end

  cells_start : (s e : ℕ) → StartsAt s e → Starts (bytes_of (span_cells source s e))
  cells_start s e h = subst Starts (sym (bytes-span source s e)) h

  pub step-starts : (c : Call) → Every TokenStarts StartsAt (c ∷ []) → (s : State) → PieceStarts (step config source c s).1
  unfolding step write_token context.write_keyword write_raw Every
  step-starts (put_spacing x) w s = spacing-starts x s
  step-starts (act_at h (spacing x)) w s = spacing-starts x s
  step-starts (act_at h write_text) w s = (lead-starts config s, cells_start h.start h.end w.0)
  step-starts (act_at h write_keyword) w s = (
    lead-starts config s,
    subst Starts (sym (bytes-in_case config.uppercase_keywords (span_cells source h.start h.end)))
        (starts-in_case config.uppercase_keywords (bytes_of (span_cells source h.start h.end)) (cells_start h.start h.end w.0)),
  )
  step-starts (act_at h (write_sign x)) w s = (lead-starts config s, sign_starts x)
  step-starts (raw f e) w s = (none-starts, cells_start f e w.0)

  pub written-starts : (cs : List Call) → Every TokenStarts StartsAt cs → (s : State) → Starts (bytes_of (written (pieces config source cs s)))
  unfolding pieces written Every
  written-starts [] w s = none-starts
  written-starts (c ∷ cs) w s =
      let r = step config source c s in
      let p = step-starts c (w.0, tt) s in
      let rest = written (pieces config source cs r.0) in
      starts-cells r.1.lead (r.1.body ++ rest) p.0 (starts-cells r.1.body rest p.1 (written-starts cs w.1 r.0))

-- ── an accepted call

pub spans_start : {width case : ℕ} {text tape : List ℕ} (a : AcceptedCall width case text tape) → SpansStart text a.accepted.tree
spans_start {text = text} a =
    let t = a.accepted.tree in
    record {
      tokens = each-token (λ h. token-starts) t.kids a.tokens;
      copies = reached_copy (λ h. Starts (token_text text h.start h.end)) t (λ x. node-starts a.root, each-node (λ h kids n x. node-starts n) t.kids a.nodes);
    }
