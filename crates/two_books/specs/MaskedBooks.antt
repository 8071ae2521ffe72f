-- Two books that differ only as the masking rule allows, in any number of jobs at the same time.
use Rattle.std.specs.Prelude.{ℕ, zero, suc, ◌-◌, ◌≡◌, Bool, true, false, List, [], ◌∷◌, length, take, drop, Ok}
use Rattle.layout.specs.Masking.{MaskedPair}
use Rattle.desk_job.specs.Job.{read_header, accepted}
use Rattle.book.specs.Book.{job_end, is_whole, opened, jobs_from}

-- two jobs with the same header and tape, whose texts are a masked pair for these settings and this tape
pub record MaskedJob (a b : List ℕ) (width case end : ℕ) : Type 0 where
  pub header_a : read_header false a ≡ accepted width case end
  pub header_b : read_header false b ≡ accepted width case end
  pub same_tape : drop end a ≡ drop end b
  pub texts : MaskedPair width case (take (end - 9) (drop 9 a)) (take (end - 9) (drop 9 b)) (drop end a)

-- or equal, as they are where the header or the tape is refused
pub data MaskedJobs (a b : List ℕ) : Type 0 where
  equal : a ≡ b → MaskedJobs a b
  masked : (width case end : ℕ) → MaskedJob a b width case end → MaskedJobs a b

-- each pair of the two lists
abbrev pub Pairs : (List ℕ → List ℕ → Type 0) → List (List ℕ) → List (List ℕ) → Type 0
Pairs P [] [] = Unit {0}
Pairs P [] (y ∷ ys) = ⊥
Pairs P (x ∷ xs) [] = ⊥
Pairs P (x ∷ xs) (y ∷ ys) = P x y × Pairs P xs ys

-- the same command and length at `at`, faulty or not, and so on after a job that stands whole, for so many commands
abbrev pub SameCommands : ℕ → List ℕ → List ℕ → ℕ → Type 0
SameCommands zero a b at = Unit {0}
SameCommands (suc more) a b at =
    (take 5 (drop at a) ≡ take 5 (drop at b)) × (is_whole a at ≡ true → SameCommands more a b (job_end a at))

-- the walk over a book reads its length and at most 257 commands; the jobs are asked for only where it refuses neither book
pub record MaskedBooks (more : Bool) (a b : List ℕ) : Type 0 where
  pub same_length : length a ≡ length b
  pub same_commands : SameCommands 257 a b 0
  pub jobs : (count : ℕ) → opened more a ≡ Ok count → Pairs MaskedJobs (jobs_from count a 0) (jobs_from count b 0)
