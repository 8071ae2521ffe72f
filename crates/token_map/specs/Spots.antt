-- From places to lines and columns.
use Rattle.std.specs.Prelude.{ℕ, ◌≤◌, ◌<◌, ◌≡◌, true, false, List, [], ◌∷◌, length, get_or, eqb}
use Rattle.layout.specs.Lines.{spot_at}
use Rattle.layout.specs.TokenMap.{entry}
use Rattle.token_map.specs.declared.Line.{Line}

-- the first number of each pair is a place; the pair becomes its line and column in bs, of which trimming leaves k
unfoldable pub spots : ℕ → List ℕ → List ℕ → List ℕ
spots k bs [] = []
spots k bs (p ∷ []) = p ∷ []
spots k bs (p ∷ q ∷ rest) = (entry k bs p).line ∷ (entry k bs p).column ∷ spots k bs rest

-- where a line that goes on at `from` ends: at the first newline from there, or where the bytes end
pub record EndsAt (bs : List ℕ) (from end : ℕ) : Type 0 where
  pub ordered : from ≤ end
  pub within : end ≤ length bs
  pub none : (j : ℕ) → from ≤ j → j < end → eqb (get_or bs j 0) 10 ≡ false
  pub newline : end < length bs → eqb (get_or bs end 0) 10 ≡ true

-- what a line of the code always is: its number is that of its first byte, by the bytes gone over
pub record LineOf (bs : List ℕ) (l : Line) : Type 0 where
  pub agrees : spot_at bs l.start ≡ record { line = l.number; column = 1 }
  pub ends : EndsAt bs l.start l.end
