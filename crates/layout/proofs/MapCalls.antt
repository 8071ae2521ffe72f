-- The masking rule for two calls with a token map, from entry to exit: refusals, answers and both spaces.
use Prim.Native.Nat.{ℕ}
use native.Mathlib.Omega.{arith}
use mathlib.Core.Path.{◌≡◌, refl, ap, subst₂}
use mathlib.Core.Bool.{Bool, true, false, cond}
use mathlib.Core.List.{List}
use lib.ListN.{length}
use lib.Dec.{leb}
use Rattle.context.specs.Cells.{Text, Cell, bytes_of, fixed}
use Rattle.context.specs.Alike.{Like}
use Rattle.context.proofs.Bytes.{bytes-fixed}
use Rattle.context.proofs.AlikeWrites.{like_self, like_length}
use Rattle.tape.specs.Tree.{Tree}
use Rattle.tape.specs.Tape.{Read, refused, got}
use Rattle.tape.specs.Call.{read_call}
use Rattle.layout.specs.Layout.{original}
use Rattle.layout.specs.Outcome.{Outcome, refusal, laid, config_of, outcome, laid_out}
use Rattle.layout.specs.TokenMap.{token_map}
use Rattle.layout.specs.Masking.{MaskedPair, MaskedPairForLayout, SameLines, cells_after}
use Rattle.layout.specs.MapCall.{flat, numbers_of, numbers, mapped_as, mapped, map_cells_after, MapsAlike, MapsAlikeByLines}
use Rattle.layout.proofs.MaskedLayouts.{original-keeps_alike, masked-lines}
use Rattle.layout.proofs.TokenMaps.{map-count}
use Rattle.layout.proofs.MaskedMaps.{masking_map}
use Rattle.layout.proofs.TwoCalls.{cells_after_lem, like_lines, OutcomesLike, alike, reading, read-both, outcomes_like, pair-for_layout}

-- the cells after a call are its output space
pub map-cells_after : (x : Outcome) (ns space map : List ℕ) → bytes_of (map_cells_after x ns space map) ≡ (mapped_as x ns space map).space
unfolding laid_out
map-cells_after x ns space map = grind (arith, cells_after_lem, bytes-fixed)

-- ── two outcomes that are alike, with as many numbers

module _ (a b : Text) where
  same-answers : (x y : Outcome) (ns ms : List ℕ) → OutcomesLike a b x y → length ns ≡ length ms → (space map : List ℕ)
      → (mapped_as x ns space map).answer ≡ (mapped_as y ms space map).answer
  same-answers (refusal f p) (refusal g q) ns ms h l space map = rw (h.0, h.1)
  same-answers (laid cs) (laid ds) ns ms h l space map = let k = like_length a b cs ds h in grind arith
  same-answers _ _ ns ms h l space map = absurd h

  same-maps : (x y : Outcome) (ns ms : List ℕ) → OutcomesLike a b x y → ns ≡ ms → (space map : List ℕ) → (mapped_as x ns space map).map ≡ (mapped_as y ms space map).map
  same-maps (refusal f p) (refusal g q) ns ms h e space map = refl
  same-maps (laid cs) (laid ds) ns ms h e space map = let k = like_length a b cs ds h in grind arith
  same-maps _ _ ns ms h e space map = absurd h

  same-cells : (t : Bool) (X Y : List Cell) (space : List ℕ) → Like a b X Y → Like a b (cond t X (fixed space)) (cond t Y (fixed space))
  same-cells true X Y space h = h
  same-cells false X Y space h = like_self a b (fixed space)

-- ── the rule

module _ (width case : ℕ) (a b : Text) (tape : List ℕ) where
  module _ (m : MaskedPairForLayout width case a b tape) where
    -- as many numbers, wherever newlines stand
    numbers-length : length (numbers width case a tape) ≡ length (numbers width case b tape)
    unfolding numbers
    numbers-length = rw (← (reading width case a b tape m)) (grind (arith, map-count))

    numbers-same : SameLines a b → numbers width case a tape ≡ numbers width case b tape
    unfolding numbers
    numbers-same w = rw (← (reading width case a b tape m)) (go (read_call width case a tape) refl)
      where
        go : (r : Read Tree) → read_call width case a tape ≡ r
            → numbers_of r (token_map original (config_of width case) a) ≡ numbers_of r (token_map original (config_of width case) b)
        go (refused f p) e = refl
        go (got t p) e =
            let k = read-both width case a b tape m t p e in
            ap flat (masking_map a b m.same_length w original (original-keeps_alike a b m.same_length) (config_of width case) t k.0 k.1 k.2 k.3)

    pub masking_maps : (space map : List ℕ) → MapsAlike width case a b tape space map
    unfolding mapped
    masking_maps space map =
        let x = outcome original width case a tape in
        let y = outcome original width case b tape in
        let ns = numbers width case a tape in
        let ms = numbers width case b tape in
        let o = outcomes_like width case a b tape m original (original-keeps_alike a b m.same_length) in
        let X = map_cells_after x ns space map in
        let Y = map_cells_after y ms space map in
        let fits = leb (length ms) (length map) in
        let k : Like a b X Y = rw numbers-length (same-cells a b fits (cells_after x space) (cells_after y space) space (alike a b x y o space).spaces) in
        record {
          answers = same-answers a b x y ns ms o numbers-length space map;
          spaces = k;
          lines = λ w. subst₂ SameLines (map-cells_after x ns space map) (map-cells_after y ms space map) (like_lines a b w X Y k);
          maps = λ w. same-maps a b x y ns ms o (numbers-same w) space map;
        }

  -- where the call is refused nothing is written, and the texts need not have their newlines at the same places
  pub maps-masked : MaskedPair width case a b tape → (space map : List ℕ) → MapsAlikeByLines width case a b tape space map
  unfolding mapped outcome numbers
  maps-masked m space map = let k = go (read_call width case a tape) refl in record { alike = all; lines = k.0; maps = k.1 }
    where
      for_layout : MaskedPairForLayout width case a b tape
      for_layout = pair-for_layout width case a b tape m

      all : MapsAlike width case a b tape space map
      all = masking_maps for_layout space map

      go : (r : Read Tree) → read_call width case a tape ≡ r
          → SameLines (mapped width case a tape space map).space (mapped width case b tape space map).space × ((mapped width case a tape space map).map ≡ (mapped width case b tape space map).map)
      go (refused f p) e = rw (← (reading width case a b tape for_layout), e) ((λ i. refl), refl)
      go (got t p) e = let w = masked-lines a b t (m.rule t p e) in (all.lines w, all.maps w)
