-- A `match` on a number.
use Rattle.std.specs.Prelude.{ℕ, Bool, false, cond, ◌||◌, List, [], ◌∷◌, eqb}

-- k is one of the numbers
abbrev pub among : ℕ → List ℕ → Bool
among k [] = false
among k (x ∷ xs) = eqb k x || among k xs

-- the value beside the first entry that equals k, else d
abbrev pub match : {A : Type 0} → ℕ → List (ℕ × A) → A → A
match k [] d = d
match k (e ∷ es) d = cond (eqb k e.0) e.1 (match k es d)
