-- `layout_map` meets its contract.
use native.Mathlib.Omega.{arith}
use mathlib.Core.Path.{◌∙◌, ap, subst, sym}
use Prim.Native.Nat.{ℕ, ◌*◌}
use lib.ListN.{replicate}
use lib.Seq.{length-take-le}
use Rattle.formatter.proofs.Entries.{holds, laid-length, map-done, map-few, map-fits, map-short, none-fills, none-length, none-map, notes-over, root-at, tokens-few}
use Rattle.formatter.specs.Entry.{MapFills, MapFits}
use Rattle.formatter.proofs.Accepted.layout_map.Goals as goal
use Rattle.formatter.proofs.Accepted.layout_map.Goals.{else-k-gt0, then-k-gt0+else-k-out}

pub walk_tree-k-requires : goal.walk_tree-k-requires
walk_tree-k-requires c = c.requires.0

pub overflow_add-result : goal.overflow_add-result
overflow_add-result c = let t = c.walk_tree-k.ensures.trims.short in omega (arith, t)

pub returns-then-k-out : goal.returns-then-k-out
returns-then-k-out c = map-short c.walk_tree-k.ensures.trims c.if-k-gt0.true c.if-k-out.true

pub skip-root-requires : goal.skip-root-requires
skip-root-requires c = root-at c.requires.0

pub overflow_mul-count : goal.overflow_mul-count
overflow_mul-count c = omega (arith, tokens-few c.requires.0 c.skip-root.ensures, c.requires.0.sizes.tape-fits)

pub returns-then-map-count : goal.returns-then-map-count
returns-then-map-count c = map-few c.walk_tree-k.ensures.trims (λ z. (elim c.if-k-gt0.branch [ then-k-gt0+else-k-out w ↦ omega (arith, w.if-k-out.false) | else-k-gt0 w ↦ omega (arith, w.if-k-gt0.false, z) ])) (map-fits c.requires.0 c.skip-root.ensures) (omega (arith, c.if-map-count.true))

pub slice_bounds-clear-end : goal.slice_bounds-clear-end
slice_bounds-clear-end c = omega (arith, c.if-map-count.false)

pub slice_bounds-clear-end-then-k-eq0 : goal.slice_bounds-clear-end-then-k-eq0
slice_bounds-clear-end-then-k-eq0 c = let a = c.args in sym (length-take-le (2 * c.skip-root.result.tokens) a.map.now (omega (arith, c.if-map-count.false)))

pub returns-then-k-eq0 : goal.returns-then-k-eq0
returns-then-k-eq0 c = let w = c.walk_tree-k.ensures.trims in map-done w (λ z. (elim c.if-k-gt0.branch [ then-k-gt0+else-k-out w ↦ omega (arith, w.if-k-out.false) | else-k-gt0 w ↦ omega (arith, w.if-k-gt0.false, z) ])) (map-fits c.requires.0 c.skip-root.ensures) (omega (arith, c.if-map-count.false)) (none-length w c.if-k-eq0.true) (none-fills w c.if-k-eq0.true _) (subst (MapFills _ _ _) (sym (c.clear.ensures ∙ ap (λ (n : ℕ). replicate n 0) (length-take-le (2 * c.skip-root.result.tokens) c.args.map.now (omega (arith, c.if-map-count.false))))) (none-map w c.if-k-eq0.true (map-fits c.requires.0 c.skip-root.ensures)))

pub slice_bounds-put_map-end : goal.slice_bounds-put_map-end
slice_bounds-put_map-end c = omega (arith, c.if-map-count.false)

pub slice_bounds-put_map-end-2 : goal.slice_bounds-put_map-end-2
slice_bounds-put_map-end-2 c = let a = c.args in sym (length-take-le (2 * c.skip-root.result.tokens) a.map.now (omega (arith, c.if-map-count.false)))

pub put_map-requires : goal.put_map-requires
put_map-requires c = let a = c.args in let w = c.walk_tree-k in record { ready = c.requires.0; trims = (w.ensures.trims, holds w.ensures w.auto.space, omega (arith, c.if-k-eq0.false), (elim c.if-k-gt0.branch [ then-k-gt0+else-k-out w ↦ omega (arith, w.if-k-out.false) | else-k-gt0 w ↦ omega (arith, w.if-k-gt0.false, c.if-k-eq0.false) ])); map_fits = (subst (MapFits _ _) (sym (length-take-le (2 * c.skip-root.result.tokens) a.map.now (omega (arith, c.if-map-count.false)))) (map-fits c.requires.0 c.skip-root.ensures), notes-over (c.requires.1 ∙ ap (λ (n : ℕ). replicate n 0) (sym w.auto.map)) w.ensures.notes) }

pub overflow_add-result-2 : goal.overflow_add-result-2
overflow_add-result-2 c = let t = c.walk_tree-k.ensures.trims.short in omega (arith, t)

pub returns : goal.returns
returns c = let w = c.walk_tree-k.ensures.trims in map-done w (λ z. (elim c.if-k-gt0.branch [ then-k-gt0+else-k-out w ↦ omega (arith, w.if-k-out.false) | else-k-gt0 w ↦ omega (arith, w.if-k-gt0.false, z) ])) (map-fits c.requires.0 c.skip-root.ensures) (omega (arith, c.if-map-count.false)) (laid-length w (omega (arith, c.if-k-eq0.false))) c.put_map.ensures.0 c.put_map.ensures.1
