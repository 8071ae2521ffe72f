-- The tally after a report is the sum of what was told.
use mathlib.Core.Path.{◌≡◌, refl}
use mathlib.Core.List.{List, [], ◌∷◌, map}
use Prim.Native.Nat.{◌+◌}
use native.Mathlib.Omega.{arith}
use lib.ListN.{length}
use Rattle.book.specs.declared.Tally.{Tally}
use Rattle.std.specs.Prelude.{Ok, Err}
use Rattle.book.specs.Told.{Told}
use Rattle.book.specs.Tally.{zeros, with_job, tallied, bytes_told, lines_told}
use Rattle.book.specs.Totals.{sum, refused_told, Totals}
use Rattle.book.proofs.Stepping.{jobs-with, bytes-with, lines-with}

refused-with : (t : Tally) (o : Told) → (with_job t o).refused ≡ t.refused + refused_told o
unfolding with_job
refused-with t (Err r) = refl
refused-with t (Ok o) = omega arith

-- raised by these jobs, number by number
record Raised (t : Tally) (told : List Told) (u : Tally) : Type 0 where
  jobs : u.jobs ≡ t.jobs + length told
  refused : u.refused ≡ t.refused + sum (map refused_told told)
  bytes : u.bytes ≡ t.bytes + sum (map bytes_told told)
  lines : u.lines ≡ t.lines + sum (map lines_told told)

raised : (t : Tally) (told : List Told) → Raised t told (tallied t told)
unfolding tallied
raised t [] = record { jobs = omega arith; refused = omega arith; bytes = omega arith; lines = omega arith }
raised t (o ∷ rest) =
    let r = raised (with_job t o) rest in
    record {
      jobs = omega (arith, r.jobs, jobs-with t o);
      refused = omega (arith, r.refused, refused-with t o);
      bytes = omega (arith, r.bytes, bytes-with t o);
      lines = omega (arith, r.lines, lines-with t o);
    }

pub totals : (told : List Told) → Totals told (tallied zeros told)
totals told =
    let r = raised zeros told in
    record { jobs = omega (arith, r.jobs); refused = omega (arith, r.refused); bytes = omega (arith, r.bytes); lines = omega (arith, r.lines) }
