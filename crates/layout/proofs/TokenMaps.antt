-- The token map has two numbers for each token of the tree: what 17 counts.
use Prim.Native.Nat.{ℕ, suc, ◌*◌, ◌≤◌}
use native.Mathlib.Omega.{arith}
use mathlib.Core.Path.{◌≡◌, refl, ap}
use mathlib.Core.Bool.{Bool, cond}
use mathlib.Core.List.{List, [], ◌∷◌, map}
use lib.ListN.{length, length-append, length-map, length-replicate}
use Rattle.context.specs.Cells.{Text}
use Rattle.context.specs.declared.FormatConfig.{FormatConfig}
use Rattle.tape.specs.Tree.{Children, done, token, node, Tree, size, tokens, count_list_items, copied}
use Rattle.layout.specs.declared.Local.{Local}
use Rattle.layout.specs.Arms.{Arms}
use Rattle.layout.specs.Calls.{put_spacing, format_error_verbatim, walk}
use Rattle.layout.specs.Layout.{Version}
use Rattle.layout.specs.Lines.{Spot}
use Rattle.layout.specs.TokenMap.{Seat, seat_after, no_places, places, places_from, token_map}
use Rattle.layout.specs.MapCall.{flat}

module _ (config : FormatConfig) (text : Text) (pick : ℕ → Children → Arms) where
  -- below a node, copied or not
  below : (t : Bool) (kids : Children) (X : List ℕ) → length X ≡ length (tokens kids) → length (cond t (no_places config text kids) X) ≡ length (tokens kids)
  below t kids X e = grind (arith, length-replicate)

  places-length : (c : Children) (r : Arms) (l : Local) (w : Seat) → length (places config text pick r l c w) ≡ length (tokens c)
  unfolding places tokens
  places-length done r l w = refl
  places-length (token h rest) r l w = ap suc (places-length rest r _ _)
  places-length (node h kids rest) r l w =
      let q = pick h.kind kids in
      let n = r.at_node l h.kind (count_list_items kids) in
      let t = copied h.kind kids in
      let inside = seat_after config text (map put_spacing n.1) w in
      let after = seat_after config text (map put_spacing n.2) (seat_after config text (cond t (format_error_verbatim h) (walk pick text q q.begin kids)) inside) in
      let X = places config text pick q q.begin kids inside in
      let Y = places config text pick r n.0 rest after in
      let u = below t kids X (places-length kids q q.begin inside) in
      let v = places-length rest r n.0 after in
      simp length-append (omega arith)

  pub places_count : (t : Tree) (w : Seat) → length (places_from config text pick t w) ≡ length (tokens t.kids)
  unfolding places_from
  places_count t w =
      let q = pick t.head.kind t.kids in
      below (copied t.head.kind t.kids) t.kids _ (places-length t.kids q q.begin w)

-- a token takes eleven bytes of the tape
pub tokens-size : (c : Children) → length (tokens c) ≤ size c
unfolding tokens size
tokens-size done = omega arith
tokens-size (token h rest) = omega (arith, tokens-size rest)
tokens-size (node h kids rest) = omega (arith, length-append (tokens kids) (tokens rest), tokens-size kids, tokens-size rest)

flat-length : (ps : List Spot) → length (flat ps) ≡ 2 * length ps
flat-length [] = refl
flat-length (p ∷ ps) = omega (arith, flat-length ps)

pub map-count : (v : Version) (config : FormatConfig) (text : Text) (t : Tree) → length (flat (token_map v config text t)) ≡ 2 * length (tokens t.kids)
unfolding token_map
map-count v config text t =
    grind (arith, flat-length, length-map, places_count)
