-- What the last line says of the lines above it: S and T equal the sums of the B and L printed, K counts the refused lines and J all jobs.
use Rattle.std.specs.Prelude.{ℕ, ◌+◌, ◌≡◌, List, [], ◌∷◌, map, length, Ok, Err}
use Rattle.book.specs.declared.Tally.{Tally}
use Rattle.book.specs.Told.{Told}
use Rattle.book.specs.Tally.{bytes_told, lines_told}

abbrev pub sum : List ℕ → ℕ
sum [] = 0
sum (n ∷ ns) = n + sum ns

-- one refused line, or none
abbrev pub refused_told : Told → ℕ
refused_told (Err r) = 1
refused_told (Ok o) = 0

pub record Totals (told : List Told) (t : Tally) : Type 0 where
  pub jobs : t.jobs ≡ length told
  pub refused : t.refused ≡ sum (map refused_told told)
  pub bytes : t.bytes ≡ sum (map bytes_told told)
  pub lines : t.lines ≡ sum (map lines_told told)
