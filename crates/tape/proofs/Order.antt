-- The kinds' numbers are their places in the source: 0, 1, .., 257.
use Prim.Native.Nat.{ℕ, suc}
use mathlib.Core.Bool.{Bool, ◌&&◌}
use mathlib.Core.List.{List, [], ◌∷◌}
use lib.Dec.{T, eqb}
use Rattle.tape.specs.Kinds.{kinds}

-- the numbers from n on, up to 257
abbrev pub count_up : ℕ → List ℕ → Bool
count_up n [] = eqb n 258
count_up n (k ∷ ks) = eqb k n && count_up (suc n) ks

pub kinds-in_order : T (count_up 0 kinds)
unfolding kinds
kinds-in_order = tt
