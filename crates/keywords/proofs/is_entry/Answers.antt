-- `is_entry` meets its contract: an entry's length and letters stand in the table from its offset on.
use mathlib.Core.Path.{◌≡◌, refl, sym, ap, ◌∙◌}
use mathlib.Core.List.{List, []}
use Prim.Native.Nat.{ℕ, ◌+◌, ◌-◌, ◌≤◌}
use native.Mathlib.Omega.{arith}
use lib.ListN.{length, get_or, take, drop}
use Rattle.basics.proofs.Same.{same-pointwise}
use Rattle.keywords.specs.Words.{same, words}
use Rattle.keywords.specs.Table.{table}
use Rattle.keywords.specs.Index.{Stands}
use Rattle.keywords.specs.declared.index.Entry.{Entry}
use Rattle.keywords.proofs.Flat.{length_at, letters_at, entry-fits, table-length}
use Rattle.keywords.proofs.is_entry.Goals as goal

-- what stands in the table at an entry, from its offset on
record InTable (e : Entry) (t : List ℕ) (at n : ℕ) : Type 0 where
  fits : at + 1 + n ≤ 1480
  spells : take (at + 1 + n - (at + 1)) (drop (at + 1) t) ≡ get_or words e.place []

in_table : (e : Entry) (t : List ℕ) (at n : ℕ) → t ≡ table → at ≡ e.at → n ≡ get_or t at 0 → Stands e → InTable e t at n
unfolding table
in_table e t at n q a m s =
    let b = a ∙ s.begins in
    let l = m ∙ ap (λ (l : List ℕ). get_or l at 0) q ∙ ap (λ (i : ℕ). get_or table i 0) b ∙ length_at e.place words s.inside in
    let k : at + 1 + n - (at + 1) ≡ length (get_or words e.place []) = omega (arith, l) in
    record {
      fits = omega (arith, entry-fits e.place words s.inside, table-length, b, l);
      spells = rw (k, q, b) (letters_at e.place words s.inside);
    }

pub bounds-table-at : goal.bounds-table-at
bounds-table-at c = let x = in_table c.args.entry _ _ _ c.table-table.ensures c.from-at.ensures refl c.requires in omega (arith, x.fits)

pub slice_bounds-eq-end : goal.slice_bounds-eq-end
slice_bounds-eq-end c = let x = in_table c.args.entry _ _ _ c.table-table.ensures c.from-at.ensures c.from.ensures c.requires in omega (arith, x.fits)

pub returns : goal.returns
returns c =
    let x = in_table c.args.entry _ _ _ c.table-table.ensures c.from-at.ensures c.from.ensures c.requires in
    c.eq.ensures ∙ sym (same-pointwise c.args.word.now _) ∙ ap (λ (v : List ℕ). same c.args.word.now v) x.spells
