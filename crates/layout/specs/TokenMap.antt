-- The token map: for each token of the tape, in order, line and column of its first byte in the layout.
use Rattle.std.specs.Prelude.{ℕ, suc, ◌+◌, ◌-◌, Bool, true, false, cond, ◌||◌, List, [], ◌∷◌, ◌++◌, map, length, replicate, eqb, ltb}
use Rattle.utf8.specs.Trimming.{trimmed_length}
use Rattle.context.specs.Cells.{Text, bytes_of}
use Rattle.context.specs.Context.{new_state}
use Rattle.context.specs.declared.FormatConfig.{FormatConfig}
use Rattle.context.specs.declared.State.{State}
use Rattle.tape.specs.declared.Head.{Head}
use Rattle.tape.specs.Tree.{Children, done, token, node, Tree, count_list_items, copied, tokens}
use Rattle.layout.specs.declared.Local.{Local}
use Rattle.layout.specs.Lines.{Spot, spot_at}
use Rattle.layout.specs.Arms.{Act, spacing, write_text, write_keyword, write_sign, seen, Arms}
use Rattle.layout.specs.Calls.{Call, put_spacing, act_at, format_error_verbatim, walk}
use Rattle.layout.specs.Layout.{step, written, Version, pieces_of, format}

-- the state, and how many bytes were written so far
abbrev pub Seat : Type 0
Seat = State × ℕ

-- a place in the output is counted from 1, and 0 is none; the later of two, if there is one
abbrev pub later_of : ℕ → ℕ → ℕ
later_of p q = cond (eqb q 0) p q

-- an act that writes a token's text or a fixed sign for it
abbrev pub writes : Act → Bool
writes (spacing x) = false
writes write_text = true
writes write_keyword = true
writes (write_sign x) = true

module _ (config : FormatConfig) (text : Text) where
  -- after calls
  unfoldable pub seat_after : List Call → Seat → Seat
  seat_after [] w = w
  seat_after (c ∷ cs) w =
      let r = step config text c w.0 in
      seat_after cs (r.0, w.1 + length (r.1.lead ++ r.1.body))

  -- the place of what acts write for a token: the last, should they write it twice. What stands before the text is not the token's
  unfoldable pub written_at : Head → List Act → Seat → ℕ
  written_at h [] w = 0
  written_at h (x ∷ xs) w =
      let r = step config text (act_at h x) w.0 in
      later_of (cond (writes x) (suc (w.1 + length r.1.lead)) 0) (written_at h xs (r.0, w.1 + length (r.1.lead ++ r.1.body)))

  -- none for a token with empty text
  abbrev pub place_of : Head → List Act → Seat → ℕ
  place_of h acts w = cond (eqb h.start h.end) 0 (written_at h acts w)

  -- none below a node that is copied as typed
  abbrev pub no_places : Children → List ℕ
  no_places kids = replicate (length (tokens kids)) 0

  module _ (pick : ℕ → Children → Arms) where
    -- the places of the children's tokens, in order, and of those below: along `walk`, which has the calls
    unfoldable pub places : Arms → Local → Children → Seat → List ℕ
    places r l done w = []
    places r l (token h rest) w =
        let a = r.at_token l (seen text h) in
        place_of h a.1 w ∷ places r a.0 rest (seat_after (map (act_at h) a.1) w)
    places r l (node h kids rest) w =
        let a = r.at_node l h.kind (count_list_items kids) in
        let q = pick h.kind kids in
        let inside = seat_after (map put_spacing a.1) w in
        let after = seat_after (cond (copied h.kind kids) (format_error_verbatim h) (walk pick text q q.begin kids)) inside in
        cond (copied h.kind kids) (no_places kids) (places q q.begin kids inside) ++ places r a.0 rest (seat_after (map put_spacing a.2) after)

    -- of all tokens of the tree, from a seat on
    unfoldable pub places_from : Tree → Seat → List ℕ
    places_from t w =
        let q = pick t.head.kind t.kids in
        cond (copied t.head.kind t.kids) (no_places t.kids) (places q q.begin t.kids w)

-- ── the map

abbrev pub no_spot : Spot
no_spot = record { line = 0; column = 0 }

-- 0 and 0 for a token without a place, or one that loses all its bytes where trimming leaves k
abbrev pub entry : ℕ → List ℕ → ℕ → Spot
entry k bs p = cond (eqb p 0 || ltb k p) no_spot (spot_at bs (p - 1))

unfoldable pub token_map : Version → FormatConfig → Text → Tree → List Spot
token_map v config text tree =
    map (entry (trimmed_length (bytes_of (written (pieces_of v config text tree)))) (bytes_of (format v config text tree)))
    (places_from config text v.pick tree (new_state, 0))
