-- The running tally of a report, and what a job adds to it.
use Rattle.std.specs.Prelude.{ℕ, ◌+◌, ◌<◌, ◌^◌, List, [], ◌∷◌, get_or, Ok, Err}
use Rattle.book.specs.declared.Tally.{Tally}
use Rattle.book.specs.Told.{Told}

abbrev pub zeros : Tally
zeros = record { jobs = 0; refused = 0; bytes = 0; lines = 0 }

-- as four numbers, in the record's order, which is how C lends a tally
abbrev pub tally_of : List ℕ → Tally
tally_of ns = record { jobs = get_or ns 0 0; refused = get_or ns 1 0; bytes = get_or ns 2 0; lines = get_or ns 3 0 }

abbrev pub numbers_of : Tally → List ℕ
numbers_of t = t.jobs ∷ t.refused ∷ t.bytes ∷ t.lines ∷ []

unfoldable pub with_job : Tally → Told → Tally
with_job t (Err r) =
    record { jobs = t.jobs + 1; refused = t.refused + 1; bytes = t.bytes; lines = t.lines }
with_job t (Ok o) =
    record { jobs = t.jobs + 1; refused = t.refused; bytes = t.bytes + o.bytes; lines = t.lines + o.lines }

-- raised job by job
unfoldable pub tallied : Tally → List Told → Tally
tallied t [] = t
tallied t (told ∷ rest) = tallied (with_job t told) rest

-- what is printed of a job's bytes and lines: none where it is refused
unfoldable pub bytes_told : Told → ℕ
bytes_told (Err r) = 0
bytes_told (Ok o) = o.bytes

unfoldable pub lines_told : Told → ℕ
lines_told (Err r) = 0
lines_told (Ok o) = o.lines

-- the sums of one job more fit
pub record Room (t : Tally) (told : Told) : Type 0 where
  pub jobs : t.jobs + 1 < 2 ^ 64
  pub refused : t.refused + 1 < 2 ^ 64
  pub bytes : t.bytes + bytes_told told < 2 ^ 64
  pub lines : t.lines + lines_told told < 2 ^ 64
