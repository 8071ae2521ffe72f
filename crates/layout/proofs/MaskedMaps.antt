-- The masking rule for the definition of the token map: two texts that differ as it allows give the same places, and where newlines stand at the same
-- places of both texts the same map.
use Prim.Native.Nat.{ℕ, zero, suc, ◌-◌}
use mathlib.Core.Path.{◌≡◌, refl, sym, ◌∙◌}
use mathlib.Core.Bool.{Bool, true, false, cond}
use mathlib.Core.List.{List, [], ◌∷◌, ◌++◌, map}
use lib.ListN.{length, take, length-append}
use Rattle.context.specs.Cells.{Text, Cell, bytes_of}
use Rattle.context.specs.Context.{Piece, new_state}
use Rattle.context.specs.Alike.{Like}
use Rattle.context.specs.declared.FormatConfig.{FormatConfig}
use Rattle.context.proofs.AlikeWrites.{like_length}
use Rattle.tape.specs.declared.Head.{Head}
use Rattle.tape.specs.Tree.{Children, done, token, node, Tree, count_list_items, copied, EachToken}
use Rattle.layout.specs.declared.Local.{Local}
use Rattle.layout.specs.Arms.{Spacing, Act, seen, Arms}
use Rattle.layout.specs.Calls.{Call, put_spacing, act_at, format_error_verbatim, walk}
use Rattle.layout.specs.Layout.{written, Version, pieces_of, format}
use Rattle.layout.specs.Lines.{Spot, first_spot, turned, spot_after}
use Rattle.layout.specs.TokenMap.{Seat, seat_after, written_at, no_places, places, places_from, entry, token_map}
use Rattle.layout.specs.Masking.{OfCopied, EachReachedBelow, EachReachedCopy, MaskedForLayout, SameLines}
use Rattle.layout.specs.SpanStarts.{SpansStart}
use Rattle.layout.proofs.EachCall.{Every, every_spacing, every_act, every_verbatim, every_cond, each-walk}
use Rattle.layout.proofs.MaskedLayouts.{TokenSpans, TokenAlike, CopySpan, CopyAlike, EachAlike, PieceLike, trimmed, walk_same, step-state, step-piece, written-trims, KeepsAlike, tokens-alike, copies-alike, same-pieces, masking, lines-agree}

module _ (a b : Text) (same_length : length a ≡ length b) where
  -- ── the places

  piece_length : {p q : Piece} → PieceLike a b same_length p q → length (p.lead ++ p.body) ≡ length (q.lead ++ q.body)
  piece_length {p} {q} k =
      length-append p.lead p.body ∙ rw (k.leads, like_length a b p.body q.body k.bodies) (sym (length-append q.lead q.body))

  module _ (config : FormatConfig) where
    seat-same : (cs : List Call) → EachAlike a b same_length cs → (w : Seat) → seat_after config a cs w ≡ seat_after config b cs w
    unfolding seat_after Every
    seat-same [] u w = refl
    seat-same (c ∷ cs) u w =
        rw (piece_length (step-piece a b same_length config c (u.0, tt) w.0), step-state a b same_length config c (u.0, tt) w.0)
        (seat-same cs u.1 _)

    written_same : (h : Head) → TokenAlike a b same_length h → (xs : List Act) (w : Seat) → written_at config a h xs w ≡ written_at config b h xs w
    unfolding written_at Every
    written_same h u [] w = refl
    written_same h u (x ∷ xs) w =
        let k = step-piece a b same_length config (act_at h x) (u, tt) w.0 in
        rw (piece_length k, step-state a b same_length config (act_at h x) (u, tt) w.0, k.leads) (rw (written_same h u xs _))

    abbrev P : Head → Type 0
    P = TokenAlike a b same_length

    abbrev Q : ℕ → ℕ → Type 0
    Q = CopySpan a b same_length

    spacing-same : (xs : List Spacing) (w : Seat) → seat_after config a (map put_spacing xs) w ≡ seat_after config b (map put_spacing xs) w
    spacing-same xs = seat-same (map put_spacing xs) (every_spacing P Q xs)

    module _ (pick : ℕ → Children → Arms) where
      -- what a node that is not copied gives of its children
      inside-same : (t : Bool) (X Y Z : List ℕ) (A B : Type 0) → OfCopied t A B → (B → Y ≡ Z) → cond t X Y ≡ cond t X Z
      inside-same true X Y Z A B v f = refl
      inside-same false X Y Z A B v f = f v

      places_same : (c : Children) → EachToken P c → EachReachedBelow (CopyAlike a b same_length) c → (r : Arms) (l : Local) (w : Seat)
          → places config a pick r l c w ≡ places config b pick r l c w
      unfolding places
      places_same done u v r l w = refl
      places_same (token h rest) u v r l w =
          let acts = (r.at_token l (seen b h)).1 in
          let cs = map (act_at h) acts in
          rw (u.0.seen_same, written_same h u.0 acts w, seat-same cs (every_act P Q h u.0 acts) w)
          (rw (places_same rest u.1 v r (r.at_token l (seen b h)).0 (seat_after config b cs w)))
      places_same (node h kids rest) u v r l w =
          let q = pick h.kind kids in
          let n = r.at_node l h.kind (count_list_items kids) in
          let t = copied h.kind kids in
          let i = seat_after config b (map put_spacing n.1) w in
          let own = cond t (format_error_verbatim h) (walk pick b q q.begin kids) in
          let e = seat_after config b own i in
          rw (
            spacing-same n.1 w,
            walk_same a b same_length pick kids u.0 q q.begin,
            seat-same own (every_cond P Q t _ _ _ _ v.0 (every_verbatim P Q h) (λ z. each-walk P Q pick b kids u.0 z q q.begin)) i,
            spacing-same n.2 e,
            places_same rest u.1 v.1 r n.0 (seat_after config b (map put_spacing n.2) e),
            inside-same t (no_places config a kids) (places config a pick q q.begin kids i) (places config b pick q q.begin kids i) _ _ v.0 (λ z. places_same kids u.0 z q q.begin i),
          )

      from-same : (t : Tree) → EachToken P t.kids → EachReachedCopy (CopyAlike a b same_length) t → (w : Seat) → places_from config a pick t w ≡ places_from config b pick t w
      unfolding places_from
      from-same t u v w =
          let q = pick t.head.kind t.kids in
          inside-same (copied t.head.kind t.kids) (no_places config a t.kids) _ _ _ _ v (λ z. places_same t.kids u z q q.begin w)

  -- the tokens have the same places in both outputs, wherever newlines stand
  pub masking_places : (pick : ℕ → Children → Arms) (config : FormatConfig) (t : Tree) → TokenSpans (length a) t.kids → SpansStart a t → SpansStart b t → MaskedForLayout a b t
      → places_from config a pick t (new_state, 0) ≡ places_from config b pick t (new_state, 0)
  masking_places pick config t s x y m = from-same config pick t (tokens-alike a b same_length t s x y m) (copies-alike a b same_length t s x y m) (new_state, 0)

  -- ── the map

  module _ (lines : SameLines a b) where
    like_spot : (X Y : List Cell) → Like a b X Y → (n : ℕ) (p : Spot) → spot_after (take n (bytes_of X)) p ≡ spot_after (take n (bytes_of Y)) p
    unfolding spot_after
    like_spot [] [] h n p = refl
    like_spot (x ∷ xs) (y ∷ ys) h zero p = refl
    like_spot (x ∷ xs) (y ∷ ys) h (suc n) p = rw (h.0.lines (lines-agree a b lines x.origin)) (like_spot xs ys h.1 n (turned y.byte p))
    like_spot _ _ h n p = absurd h

    entries-same : (X Y : List Cell) → Like a b X Y → (k : ℕ) (ps : List ℕ) → map (entry k (bytes_of X)) ps ≡ map (entry k (bytes_of Y)) ps
    entries-same X Y h k [] = refl
    entries-same X Y h k (p ∷ ps) = rw (like_spot X Y h (p - 1) first_spot, entries-same X Y h k ps)

    pub masking_map : (v : Version) → KeepsAlike a b same_length v → (config : FormatConfig) (t : Tree) → TokenSpans (length a) t.kids → SpansStart a t → SpansStart b t
        → MaskedForLayout a b t → token_map v config a t ≡ token_map v config b t
    unfolding token_map
    masking_map v keeps config t s x y m =
        let ps = pieces_of v config a t in
        let qs = pieces_of v config b t in
        rw (
          written-trims a b same_length ps qs (same-pieces a b same_length t s x y m v keeps config),
          masking_places v.pick config t s x y m,
        )
        (entries-same (format v config a t) (format v config b t) (masking a b same_length t s x y m v keeps config) (trimmed a b same_length (written qs)) (places_from config b v.pick t (new_state, 0)))
