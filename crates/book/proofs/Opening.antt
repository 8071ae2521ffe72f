-- Laws of the walk over a book.
use mathlib.Core.Path.{◌≡◌}
use mathlib.Core.Bool.{Bool, true, false}
use mathlib.Core.List.{List}
use Prim.Native.Nat.{ℕ, zero, suc, ◌+◌, ◌-◌, ◌≤◌, ◌<◌}
use native.Mathlib.Omega.{arith}
use lib.ListN.{length, get_or}
use lib.Dec.{leb, eqb}
use borrow.Author.Tests.{leb-true, le-leb, lt-leb, le-ltb}
use Rattle.std.proofs.lemmas.Bool.{and_parts}
use Rattle.std.specs.Prelude.{Ok, Err}
use Rattle.book.specs.declared.open.BookFault.TheVariants.{NotWhole, TooMany}
use Rattle.book.specs.Book.{job_end, is_whole, walk, opened}

-- a command that stands whole, with its job; the test comes first, by which the check finds the law
pub whole_job : (book : List ℕ) (at : ℕ) → is_whole book at ≡ true → (is_whole book at ≡ true) × (at + 5 ≤ job_end book at) × (job_end book at ≤ length book)
unfolding is_whole job_end
whole_job book at h =
    let job = and_parts (eqb (get_or book at 0) 32) _ (and_parts (leb (at + 5) (length book)) _ h).1 in (h, omega arith, leb-true _ (length book) job.1)

-- one step of the walk
module _ (book : List ℕ) (at n : ℕ) where
  pub walk_end : (more : ℕ) → length book ≤ at → walk more book at n ≡ Ok n
  unfolding walk
  walk_end zero l = simp (le-leb (length book) at l)
  walk_end (suc more) l = simp (le-leb (length book) at l)

  module _ (l : at < length book) where
    pub walk-18 : (more : ℕ) → is_whole book at ≡ false → walk more book at n ≡ Err (NotWhole at)
    unfolding walk
    walk-18 zero w = simp (lt-leb (length book) at l, w)
    walk-18 (suc more) w = simp (lt-leb (length book) at l, w)

    pub walk-19 : is_whole book at ≡ true → walk 0 book at n ≡ Err (TooMany at)
    unfolding walk
    walk-19 w = simp (lt-leb (length book) at l, w)

    pub walk-next : (more : ℕ) → is_whole book at ≡ true → walk (suc more) book at n ≡ walk more book (job_end book at) (n + 1)
    unfolding walk
    walk-next more w = simp (lt-leb (length book) at l, w)

-- the loop: it is full with 256 jobs, and else one job less is allowed
module _ (book : List ℕ) (at n : ℕ) (l : at < length book) (w : is_whole book at ≡ true) where
  pub loop_full : n ≡ 256 → walk (256 - n) book at n ≡ Err (TooMany at)
  loop_full e = let z : 256 - n ≡ 0 = omega (arith, e) in rw z (walk-19 book at n l w)

  pub loop_next : n < 256 → walk (256 - n) book at n ≡ walk (256 - (n + 1)) book (job_end book at) (n + 1)
  loop_next f = let s : 256 - n ≡ suc (256 - (n + 1)) = omega (arith, f) in rw s (walk-next book at n l (256 - (n + 1)) w)

pub opened-walked : (more : Bool) (book : List ℕ) → more ≡ false → length book ≤ 65536 → opened more book ≡ walk 256 book 0 0
unfolding opened
opened-walked more book f l = simp (f, le-ltb 65536 (length book) l)
