-- From a text and a tree to the calls of the context, in order. A call names the token that it is for; none holds a byte of the text.
-- `pick` is the dispatch: which routine a kind has.
use Rattle.std.specs.Prelude.{ℕ, cond, List, [], ◌∷◌, ◌++◌, map, leb}
use Rattle.context.specs.Cells.{Text}
use Rattle.tape.specs.declared.Head.{Head}
use Rattle.tape.specs.Tree.{Children, done, token, node, Tree, count_list_items, copied}
use Rattle.layout.specs.declared.Local.{Local}
use Rattle.layout.specs.Arms.{Spacing, Act, seen, Arms}

-- a spacing around a child node or at the end; an act at a token; write_raw of a span
pub data Call : Type 0 where
  put_spacing : Spacing → Call
  act_at : Head → Act → Call
  raw : ℕ → ℕ → Call

-- format_error_verbatim
unfoldable pub format_error_verbatim : Head → List Call
format_error_verbatim h = cond (leb h.start h.end) (raw h.start h.end ∷ []) []

module _ (pick : ℕ → Children → Arms) (text : Text) where
  -- a routine's loop: the local variables so far, and the children still to come
  unfoldable pub walk : Arms → Local → Children → List Call
  walk r l done = map put_spacing (r.at_end l)
  walk r l (token h rest) =
      let a = r.at_token l (seen text h) in
      map (act_at h) a.1 ++ walk r a.0 rest
  walk r l (node h kids rest) =
      let a = r.at_node l h.kind (count_list_items kids) in
      let q = pick h.kind kids in
      let inside = walk q q.begin kids in
      map put_spacing a.1 ++ (cond (copied h.kind kids) (format_error_verbatim h) inside ++ (map put_spacing a.2 ++ walk r a.0 rest))

  -- format_node at the root
  unfoldable pub calls : Tree → List Call
  calls t =
      let q = pick t.head.kind t.kids in
      cond (copied t.head.kind t.kids) (format_error_verbatim t.head) (walk q q.begin t.kids)
