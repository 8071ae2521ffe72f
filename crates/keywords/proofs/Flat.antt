-- Where the entries of a list stand in the flat table.
use mathlib.Core.Path.{◌≡◌, refl, sym, ap, ◌∙◌}
use mathlib.Core.List.{List, [], ◌∷◌, ◌++◌}
use Prim.Native.Nat.{ℕ, zero, suc, ◌+◌, ◌≤◌, ◌<◌}
use native.Mathlib.Nat.{le_of_suc-le-suc, not-suc-le-zero}
use native.Mathlib.Omega.{arith}
use lib.ListN.{length, length-append, length-drop, get_or, take, drop}
use lib.Seq.{drop-append-add, drop-drop, get_or-drop, take-append_seam}
use Rattle.keywords.specs.Names.{names}
use Rattle.keywords.specs.Words.{words}
use Rattle.keywords.specs.Table.{flat, table}
use Rattle.keywords.specs.Index.{offset}

-- from its offset on, an entry's length, its letters, and what comes after it
from-offset : (i : ℕ) (es : List (List ℕ)) → i < length es
    → drop (offset i es) (flat es) ≡ length (get_or es i []) ∷ get_or es i [] ++ flat (drop (suc i) es)
unfolding flat offset
from-offset i [] h = absurd (not-suc-le-zero h)
from-offset zero (e ∷ es) h = refl
from-offset (suc i) (e ∷ es) h = drop-append-add e (flat es) (offset i es) ∙ from-offset i es (le_of_suc-le-suc h)

module _ (i : ℕ) (es : List (List ℕ)) (h : i < length es) where
  pub length_at : get_or (flat es) (offset i es) 0 ≡ length (get_or es i [])
  length_at =
      let z : offset i es ≡ offset i es + 0 = omega arith in
      ap (λ (n : ℕ). get_or (flat es) n 0) z ∙ sym (get_or-drop (offset i es) (flat es) 0 0) ∙ ap (λ (l : List ℕ). get_or l 0 0) (from-offset i es h)

  pub letters_at : take (length (get_or es i [])) (drop (offset i es + 1) (flat es)) ≡ get_or es i []
  letters_at =
      ap (λ (l : List ℕ). take (length (get_or es i [])) l) (sym (drop-drop 1 (offset i es) (flat es)) ∙ ap (λ (l : List ℕ). drop 1 l) (from-offset i es h))
      ∙ take-append_seam (get_or es i []) (flat (drop (suc i) es))

  pub entry-fits : offset i es + 1 + length (get_or es i []) ≤ length (flat es)
  entry-fits =
      let l = sym (length-drop (offset i es) (flat es)) ∙ ap (λ (l : List ℕ). length l) (from-offset i es h) in
      let m = length-append (get_or es i []) (flat (drop (suc i) es)) in
      omega (arith, l, m)

pub table-length : length table ≡ 1480
unfolding table flat words names
table-length = refl
