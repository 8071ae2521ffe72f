-- Lines of the output: line and column of a byte, both from 1, columns in bytes.
use Rattle.std.specs.Prelude.{ℕ, suc, cond, List, [], ◌∷◌, take, eqb}

pub record Spot : Type 0 where
  pub line : ℕ
  pub column : ℕ

abbrev pub first_spot : Spot
first_spot = record { line = 1; column = 1 }

-- a newline ends its line
abbrev pub turned : ℕ → Spot → Spot
turned b p = cond (eqb b 10) (record { line = suc p.line; column = 1 }) (record { line = p.line; column = suc p.column })

-- the spot of the byte that comes after bs
unfoldable pub spot_after : List ℕ → Spot → Spot
spot_after [] p = p
spot_after (b ∷ bs) p = spot_after bs (turned b p)

-- the spot of the byte at offset n
abbrev pub spot_at : List ℕ → ℕ → Spot
spot_at bs n = spot_after (take n bs) first_spot
