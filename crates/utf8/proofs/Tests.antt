-- Tests of ranges.
use Prim.Native.Nat.{ℕ, ◌≤◌, ◌<◌}
use mathlib.Core.Path.{◌≡◌, refl, sym}
use mathlib.Core.Bool.{Bool, true, false, and-false}
use lib.Dec.{leb}
use borrow.Author.Tests.{le-leb, lt-leb, leb-true}
use Rattle.std.proofs.lemmas.Bool.{and_parts}
use Rattle.utf8.specs.Table.{Range, ◌‥◌, holds}

-- two tests, each of which passes where the other does
pub same_tests : (s t : Bool) → (s ≡ true → t ≡ true) → (t ≡ true → s ≡ true) → s ≡ t
same_tests true t f g = sym (f refl)
same_tests false true f g = g refl
same_tests false false f g = refl

-- ── ranges

pub holds-in : (low high b : ℕ) → low ≤ b → b ≤ high → holds (low ‥ high) b ≡ true
unfolding holds
holds-in low high b u v = rw (le-leb low b u, le-leb b high v)

pub holds-below : (low high b : ℕ) → b < low → holds (low ‥ high) b ≡ false
unfolding holds
holds-below low high b u = rw (lt-leb low b u)

pub holds-above : (low high b : ℕ) → high < b → holds (low ‥ high) b ≡ false
unfolding holds
holds-above low high b u = rw (lt-leb b high u) (and-false (leb low b))

pub holds-low : (r : Range) (b : ℕ) → holds r b ≡ true → r.low ≤ b
unfolding holds
holds-low r b e = leb-true r.low b (and_parts (leb r.low b) (leb b r.high) e).0

pub holds-high : (r : Range) (b : ℕ) → holds r b ≡ true → b ≤ r.high
unfolding holds
holds-high r b e = leb-true b r.high (and_parts (leb r.low b) (leb b r.high) e).1
