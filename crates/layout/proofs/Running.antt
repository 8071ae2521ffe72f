-- What calls come to, one after the other: the state after them, and all that they write laid over the output space; and the trimmed
-- layout with its newline.
use Prim.Native.Nat.{ℕ, suc, ◌+◌, ◌≤◌}
use native.Mathlib.Omega.{arith}
use mathlib.Core.Path.{◌≡◌, refl, sym, ap, ◌∙◌}
use mathlib.Core.List.{List, [], ◌∷◌, ◌++◌, map, append_assoc}
use lib.ListN.{length, take, drop, set, get_or, length-append, length-map}
use lib.Seq.{drop-cons, length-take-le, set_at}
use Rattle.std.proofs.lemmas.List.{take-map}
use Rattle.utf8.specs.Trimming.{trimmed_length}
use Rattle.utf8.proofs.Trimming.{trimmed-le}
use Rattle.context.specs.Cells.{Text, Cell, fresh, bytes_of}
use Rattle.context.specs.Splice.{splice}
use Rattle.context.specs.Context.{end_line, trim_end, finish}
use Rattle.context.specs.Store.{Store, appended, stored}
use Rattle.context.specs.declared.FormatConfig.{FormatConfig}
use Rattle.context.specs.declared.State.{State}
use Rattle.context.proofs.Bytes.{bytes-append}
use Rattle.context.proofs.Splicing.{splice-covers}
use Rattle.context.proofs.Writes.{appended-twice, appended-none}
use Rattle.layout.specs.Arms.{Spacing}
use Rattle.layout.specs.Calls.{Call, put_spacing}
use Rattle.layout.specs.Layout.{step, pieces, written}
use Rattle.layout.specs.Run.{run_spacing, run}
use Rattle.layout.proofs.EachCall.{Every}
use Rattle.layout.proofs.PieceStarts.{StartsAt, TokenStarts, written-starts}

module _ (config : FormatConfig) (source : Text) where
  pub run-append : (x y : List Call) (w : Store) → run config source (x ++ y) w ≡ run config source y (run config source x w)
  run-append [] y w = refl
  run-append (c ∷ x) y w = run-append x y _

  -- spacing around a child node reads neither the settings nor the text
  pub run-spacing : (xs : List Spacing) (w : Store) → run config source (map put_spacing xs) w ≡ run_spacing xs w
  unfolding step
  run-spacing [] w = refl
  run-spacing (x ∷ xs) w = run-spacing xs _

  -- the state after calls
  unfoldable pub after : List Call → State → State
  after [] s = s
  after (c ∷ cs) s = after cs (step config source c s).0

  -- where each span begins at a character's bound, so that trimming piece by piece is trimming the whole
  pub run-appends : (cs : List Call) (w : Store) → Every (TokenStarts config source) (StartsAt config source) cs
      → run config source cs w ≡ appended (after cs w.0.state) (bytes_of (written (pieces config source cs w.0.state))) w
  unfolding after pieces written appended Every
  run-appends [] w h = appended-none w.0.state w.0 w.1
  run-appends (c ∷ cs) w h =
      let r = step config source c w.0.state in
      let s = after cs r.0 in
      let x = written (pieces config source cs r.0) in
      cc (
        run-appends cs (stored r w) h.1,
        appended-twice s r.0 (bytes_of (r.1.lead ++ r.1.body)) (bytes_of x) w (written-starts config source cs h.1 r.0),
        bytes-append (r.1.lead ++ r.1.body) x,
        append_assoc r.1.lead r.1.body x,
      )

-- ── finish

-- the trimmed length of what was written
abbrev pub kept : List Cell → ℕ
kept X = trimmed_length (bytes_of X)

kept_fits : (X : List Cell) → kept X ≤ length X
kept_fits X = omega (arith, trimmed-le (bytes_of X), length-map X (λ (c : Cell). c.byte))

cut-length : (X : List Cell) → length (trim_end X) ≡ kept X
unfolding trim_end
cut-length X = length-take-le (kept X) X (kept_fits X)

cut-bytes : (X : List Cell) → bytes_of (trim_end X) ≡ take (kept X) (bytes_of X)
unfolding trim_end
cut-bytes X = sym (take-map (λ (c : Cell). c.byte) (kept X) X)

end-some : (Y : List Cell) → (length Y ≡ 0 → ⊥) → end_line Y ≡ Y ++ (fresh 10 ∷ [])
end-some Y h = grind arith

-- nothing is kept: nothing is laid out; else one byte more
pub finish-none : (X : List Cell) → kept X ≡ 0 → finish X ≡ []
unfolding finish
finish-none X h = let e = cut-length X in grind arith

pub finish-length : (X : List Cell) → (kept X ≡ 0 → ⊥) → length (finish X) ≡ kept X + 1
unfolding finish
finish-length X h = let e = cut-length X in grind (arith, length-append)

-- the first k bytes of the space were lent for a layout of which k bytes are kept, and the newline is stored after them
pub finish-stored : (X : List Cell) (k : ℕ) (space ys : List ℕ) → k ≡ kept X → (k ≡ 0 → ⊥) → k + 1 ≤ length space → ys ≡ splice 0 (bytes_of X) (take k space)
    → set (ys ++ drop k space) k 10 ≡ bytes_of (finish X) ++ drop (length (finish X)) space
unfolding finish
finish-stored X k space ys p z h q =
    let t = length-take-le k space (omega arith) in
    let i = trimmed-le (bytes_of X) in
    let e : ys ≡ bytes_of (trim_end X) = q ∙ splice-covers (bytes_of X) (take k space) (omega arith) ∙ ap (λ (n : ℕ). take n (bytes_of X)) (t ∙ p) ∙ sym (cut-bytes X) in
    let tl = cut-length X in
    let l : length ys ≡ k = omega (arith, ap length e, length-map (trim_end X) (λ (c : Cell). c.byte)) in
    let f = end-some (trim_end X) (omega arith) in
    let m : length (trim_end X ++ (fresh 10 ∷ [])) ≡ suc k = omega (arith, length-append (trim_end X) (fresh 10 ∷ [])) in
    rw (f, m, drop-cons space k 0 (omega arith), bytes-append (trim_end X) (fresh 10 ∷ []), ← e)
    (set_at ys (get_or space k 0) (drop (suc k) space) 10 k l ∙ sym (append_assoc ys (10 ∷ []) (drop (suc k) space)))
