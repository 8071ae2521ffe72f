-- Every byte of the layout with an origin is the text's byte there, save for the case of a letter.
use Prim.Native.Nat.{ℕ, zero, suc, ◌+◌, ◌<◌}
use native.Mathlib.Omega.{arith}
use mathlib.Core.Path.{◌≡◌, subst, ◌∙◌}
use mathlib.Core.Bool.{Bool, true, false}
use mathlib.Core.List.{List, [], ◌∷◌, ◌++◌, map}
use lib.ListN.{length, get_or, take, drop, replicate}
use lib.Dec.{leb}
use Rattle.std.proofs.lemmas.Bool.Decides.{nat_tests}
use Rattle.basics.specs.Case.{to_uppercase, to_lowercase}
use Rattle.context.specs.Cells.{Text, Origin, made, from, Cell, fresh, fixed, bytes_of, to_case, token_text, copied_from, span_cells, cell_in_case}
use Rattle.utf8.specs.Trimming.{trimmed_length}
use Rattle.context.specs.Context.{Step, new_state, write_newline, lead, write_token, write_raw, take_pending_newline, take_pending_blank_line, write_space, end_line, trim_end, finish}
use Rattle.context.specs.Context as context
use Rattle.context.specs.declared.FormatConfig.{FormatConfig}
use Rattle.context.specs.declared.State.{State}
use Rattle.context.proofs.Bytes.{token-at}
use Rattle.tape.specs.Tree.{Tree}
use Rattle.tape.specs.Tape.{Read, refused, got}
use Rattle.tape.specs.Call.{read_call}
use Rattle.layout.specs.Arms.{Spacing, spacing, write_text, write_keyword, write_sign}
use Rattle.layout.specs.Calls.{Call, put_spacing, act_at, raw, calls}
use Rattle.layout.specs.Layout.{do_spacing, step, pieces, written, original, pieces_of, format}
use Rattle.layout.specs.Outcome.{of_read, config_of, outcome}
use Rattle.layout.specs.Origins.{ComesFrom, AllComeFrom}
use Rattle.layout.specs.Masking.{fitted_cells, cells_after}
use Rattle.layout.proofs.PieceStarts.{each-spacing, each-lead}

-- ── a change of case changes letters alone

lower_case : (u : Bool) (x : ℕ) → to_lowercase (to_case u x) ≡ to_lowercase x
unfolding to_lowercase to_uppercase
lower_case u x = grind (arith, nat_tests)

-- ── lists of cells

module _ (t : Text) where
  abbrev All : List Cell → Type 0
  All = AllComeFrom t

  all_append : (X Y : List Cell) → All X → All Y → All (X ++ Y)
  all_append [] Y u v = v
  all_append (c ∷ X) Y u v = (u.0, all_append X Y u.1 v)

  all-fresh : (n b : ℕ) → All (replicate n (fresh b))
  all-fresh zero b = tt
  all-fresh (suc n) b = (tt, all-fresh n b)

  -- a part of the text from p on
  all-copied : (p : ℕ) (bs : List ℕ) → ((i : ℕ) → i < length bs → get_or bs i 0 ≡ get_or t (p + i) 0) → All (copied_from p bs)
  all-copied p [] h = tt
  all-copied p (b ∷ bs) h =
      (let e = h 0 (omega arith) in grind arith, all-copied (suc p) bs (λ i k. let e = h (suc i) (omega arith) in grind arith))

  all-span : (s e : ℕ) → All (span_cells t s e)
  all-span s e = all-copied s (token_text t s e) (token-at t s e)

  all-in_case : (u : Bool) (X : List Cell) → All X → All (map (cell_in_case u) X)
  all-in_case u [] k = tt
  all-in_case u (c ∷ X) k = (one c.origin k.0, all-in_case u X k.1)
    where
      one : (o : Origin) → ComesFrom t c o → ComesFrom t (cell_in_case u c) o
      one made w = tt
      one (from p) w = lower_case u c.byte ∙ w

  all_take : (n : ℕ) (X : List Cell) → All X → All (take n X)
  all_take (suc n) (c ∷ X) u = (u.0, all_take n X u.1)
  all_take _ _ u = tt

  all-trim : (X : List Cell) → All X → All (trim_end X)
  unfolding trim_end
  all-trim X = all_take (trimmed_length (bytes_of X)) X

  all_end : (X : List Cell) → All X → All (end_line X)
  all_end [] u = tt
  all_end (c ∷ X) u = all_append (c ∷ X) (fresh 10 ∷ []) u (tt, tt)

  -- ── pieces

  abbrev Good : Step → Type 0
  Good r = All r.1.lead × All r.1.body

  good_spacing : (x : Spacing) (s : State) → Good (do_spacing x s)
  unfolding write_newline
  good_spacing = each-spacing Good (λ s. (tt, (tt, tt))) (λ s. (tt, tt))

  all-lead : (config : FormatConfig) (s : State) → All (lead config s)
  all-lead = each-lead All (λ n. all-fresh n 32)

  good_step : (config : FormatConfig) (c : Call) (s : State) → Good (step config t c s)
  unfolding step write_token context.write_keyword write_raw
  good_step config (put_spacing x) s = good_spacing x s
  good_step config (act_at h (spacing x)) s = good_spacing x s
  good_step config (act_at h write_text) s = (all-lead config s, all-span h.start h.end)
  good_step config (act_at h write_keyword) s = (all-lead config s, all-in_case config.uppercase_keywords (span_cells t h.start h.end) (all-span h.start h.end))
  good_step config (act_at h (write_sign x)) s = (all-lead config s, (tt, tt))
  good_step config (raw s e) x = (tt, all-span s e)

  all-written : (config : FormatConfig) (cs : List Call) (s : State) → All (written (pieces config t cs s))
  unfolding written pieces
  all-written config [] s = tt
  all-written config (c ∷ cs) s =
      let r = step config t c s in
      let g = good_step config c s in
      all_append r.1.lead (r.1.body ++ written (pieces config t cs r.0)) g.0
      (all_append r.1.body (written (pieces config t cs r.0)) g.1 (all-written config cs r.0))

  pub origins : (config : FormatConfig) (tree : Tree) → AllComeFrom t (format original config t tree)
  unfolding format finish pieces_of original
  origins config tree =
      let X = written (pieces config t (calls original.pick t tree) new_state) in
      all_end (trim_end X) (all-trim X (all-written config (calls original.pick t tree) new_state))

  all-fixed : (xs : List ℕ) → All (fixed xs)
  all-fixed [] = tt
  all-fixed (x ∷ xs) = (tt, all-fixed xs)

  -- of the whole output space after a call
  pub origins-after : (width case : ℕ) (tape before : List ℕ) → AllComeFrom t (cells_after (outcome original width case t tape) before)
  unfolding outcome
  origins-after width case tape before = go (read_call width case t tape)
    where
      fit : (x : Bool) (cs : List Cell) → All cs → All (fitted_cells x cs before)
      fit true cs k = all_append cs (fixed (drop (length cs) before)) k (all-fixed (drop (length cs) before))
      fit false cs k = all-fixed before

      go : (r : Read Tree) → All (cells_after (of_read r (format original (config_of width case) t)) before)
      go (refused f p) = all-fixed before
      go (got tree p) =
          let cs = format original (config_of width case) t tree in fit (leb (length cs) (length before)) cs (origins (config_of width case) tree)

  -- at each place
  pub comes_from : (cs : List Cell) → AllComeFrom t cs → (i p : ℕ) → (get_or cs i (fresh 0)).origin ≡ from p → to_lowercase (get_or cs i (fresh 0)).byte ≡ to_lowercase (get_or t p 0)
  comes_from [] k i p e = cc
  comes_from (c ∷ cs) k zero p e = subst (ComesFrom t c) e k.0
  comes_from (c ∷ cs) k (suc i) p e = comes_from cs k.1 i p e
