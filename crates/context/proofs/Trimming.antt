-- Laws of trimmed lengths in a row.
use mathlib.Core.Path.{◌≡◌, sym, ap, ◌∙◌}
use mathlib.Core.List.{List, ◌++◌}
use Prim.Native.Nat.{ℕ, zero, suc, ◌+◌}
use native.Mathlib.Nat.{add-zero}
use native.Mathlib.Omega.{arith}
use lib.ListN.{replicate}
use Rattle.utf8.specs.Trimming.{trimmed_length, trimmed_after, is_white_byte}
use Rattle.utf8.proofs.Trimming.{trimmed-cons, trimmed-one}

pub after_none : (j : ℕ) → trimmed_after 0 0 j ≡ j
after_none j = grind arith

-- three lists in a row
pub after-after : (l k n i j : ℕ) → trimmed_after l k (trimmed_after n i j) ≡ trimmed_after (l + n) (trimmed_after l k i) j
after-after l k n i j = grind arith

-- so many blanks, and then a text
pub trimmed-lead : (n : ℕ) (xs : List ℕ) (l k : ℕ)
    → trimmed_after l k (trimmed_length (replicate n 32 ++ xs)) ≡ trimmed_after (l + n) k (trimmed_length xs)
unfolding is_white_byte
trimmed-lead zero xs l k = ap (λ (m : ℕ). trimmed_after m k (trimmed_length xs)) (sym (add-zero l))
trimmed-lead (suc n) xs l k =
    ap (trimmed_after l k) (trimmed-cons 32 (replicate n 32 ++ xs) (omega arith) ∙ ap (λ (m : ℕ). trimmed_after 1 m (trimmed_length (replicate n 32 ++ xs))) (trimmed-one 32))
    ∙ after-after l k 1 0 (trimmed_length (replicate n 32 ++ xs))
    ∙ trimmed-lead n xs (l + 1) k
    ∙ ap (λ (m : ℕ). trimmed_after m k (trimmed_length xs)) (omega arith)
