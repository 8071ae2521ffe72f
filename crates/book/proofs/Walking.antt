-- The jobs that the walk over a book counts stand whole.
use mathlib.Core.Path.{◌≡◌, refl}
use mathlib.Core.Bool.{Bool, true, false, cond}
use mathlib.Core.List.{List}
use Prim.Native.Nat.{ℕ, zero, suc, ◌+◌, ◌-◌, ◌≤◌, ◌<◌}
use native.Mathlib.Numerals.{sub-one}
use native.Mathlib.Omega.{arith}
use lib.ListN.{length}
use lib.Dec.{leb, ltb}
use borrow.Author.Tests.{ltb-false}
use Rattle.std.specs.Prelude.{Result, Ok, Err}
use Rattle.book.specs.declared.open.BookFault.{BookFault}
use Rattle.book.specs.declared.open.BookFault.TheVariants.{TooLong, NotWhole, TooMany}
use Rattle.book.specs.Book.{job_end, is_whole, walk, opened}
use Rattle.book.specs.Steps.{all_whole}

-- from `at` on, behind n jobs, with so many more allowed
pub record JobsFrom (more : ℕ) (book : List ℕ) (at n count : ℕ) : Type 0 where
  pub behind : n ≤ count
  pub allowed : count ≤ n + more
  pub whole : all_whole (count - n) book at ≡ true

none-whole : (k : ℕ) (book : List ℕ) (at : ℕ) → k ≡ 0 → all_whole k book at ≡ true
unfolding all_whole
none-whole zero book at e = refl
none-whole (suc k) book at e = absurd (omega (arith, e))

more-whole : (k : ℕ) (book : List ℕ) (at : ℕ) → 0 < k → is_whole book at ≡ true → all_whole (k - 1) book (job_end book at) ≡ true → all_whole k book at ≡ true
unfolding all_whole
more-whole zero book at l h g = absurd (omega (arith, l))
more-whole (suc k) book at l h g = rw h (rw (sub-one) at g)

ended : (more : ℕ) (book : List ℕ) (at n count : ℕ) → ◌≡◌ {A = Result ℕ BookFault} (Ok n) (Ok count) → JobsFrom more book at n count
ended more book at n count e =
    let c : n ≡ count = (cc) in
    record { behind = omega (arith, c); allowed = omega (arith, c); whole = none-whole (count - n) book at (omega (arith, c)) }

last : (end whole : Bool) (book : List ℕ) (at n count : ℕ) → cond end (Ok n) (cond whole (Err (TooMany at)) (Err (NotWhole at))) ≡ Ok count → JobsFrom 0 book at n count
last true whole book at n count e = ended 0 book at n count e
last false true book at n count e = (cc)
last false false book at n count e = (cc)

one_more : (more : ℕ) (end whole : Bool) (rest : Result ℕ BookFault) (book : List ℕ) (at n count : ℕ) → is_whole book at ≡ whole → (rest ≡ Ok count → JobsFrom more book (job_end book at) (n + 1) count)
    → cond end (Ok n) (cond whole rest (Err (NotWhole at))) ≡ Ok count → JobsFrom (suc more) book at n count
one_more more true whole rest book at n count w f e = ended (suc more) book at n count e
one_more more false false rest book at n count w f e = (cc)
one_more more false true rest book at n count w f e =
    let r = f e in
    let s : count - n - 1 ≡ count - (n + 1) = omega arith in
    record { behind = omega (arith, r.behind); allowed = omega (arith, r.allowed); whole = more-whole (count - n) book at (omega (arith, r.behind)) w (rw s r.whole) }

counted : (more : ℕ) (book : List ℕ) (at n count : ℕ) → walk more book at n ≡ Ok count → JobsFrom more book at n count
unfolding walk
counted zero book at n count e = last (leb (length book) at) (is_whole book at) book at n count e
counted (suc more) book at n count e =
    one_more more (leb (length book) at) (is_whole book at) (walk more book (job_end book at) (n + 1)) book at n count refl (counted more book (job_end book at) (n + 1) count) e

-- a book that is not refused is not too long
pub record Walked (book : List ℕ) (count : ℕ) : Type 0 where
  pub short : length book ≤ 65536
  pub few : count ≤ 256
  pub whole : all_whole count book 0 ≡ true

opened-at : (m b : Bool) (book : List ℕ) (count : ℕ) → ltb 65536 (length book) ≡ b → cond m (Err TooLong) (cond b (Err TooLong) (walk 256 book 0 0)) ≡ Ok count → Walked book count
opened-at true b book count l e = (cc)
opened-at false true book count l e = (cc)
opened-at false false book count l e =
    let c = counted 256 book 0 0 count e in
    let z : count - 0 ≡ count = omega arith in
    record { short = ltb-false 65536 (length book) l; few = omega (arith, c.allowed); whole = rw z at c.whole }

pub walked : (more : Bool) (book : List ℕ) (count : ℕ) → opened more book ≡ Ok count → Walked book count
unfolding opened
walked more book count e = opened-at more (ltb 65536 (length book)) book count refl e
