-- What the header's tests say.
use mathlib.Core.Path.{◌≡◌, sym, ◌∙◌}
use mathlib.Core.Bool.{Bool, true, false, cond, not}
use mathlib.Core.List.{List}
use Prim.Native.Nat.{ℕ, ◌≤◌}
use native.Mathlib.Omega.{arith}
use lib.ListN.{length, get_or}
use lib.Dec.{ltb}
use borrow.Author.Tests.{ltb-false}
use Rattle.std.proofs.lemmas.Bool.{cond_both}
use Rattle.std.specs.Prelude.{Result, Ok, Err}
use Rattle.desk_job.specs.declared.Header.{Header}
use Rattle.desk_job.specs.Job.{has_command, text_end, read_header, accepted}

-- an answer that is negated in the test
pub answered-false : {r t : Bool} → r ≡ t → r ≡ false → t ≡ false
answered-false e n = sym e ∙ n

pub answered-true : {r t : Bool} → r ≡ t → r ≡ true → t ≡ true
answered-true e n = sym e ∙ n

-- ── where the text of an accepted job ends

-- the text of an accepted job ends within it
abbrev pub Within : List ℕ → Result Header ℕ → Type 0
Within job (Ok h) = (9 ≤ h.end) × (h.end ≤ length job)
Within job (Err p) = Unit {0}

passed : (job : List ℕ) (b : Bool) (p : ℕ) (rest : Result Header ℕ) → Within job rest → Within job (cond b (Err p) rest)
passed job true p rest w = tt
passed job false p rest w = w

text-after_header : (job : List ℕ) → 9 ≤ text_end job
unfolding text_end
text-after_header job = omega arith

pub header_within : (more : Bool) (job : List ℕ) → Within job (read_header more job)
unfolding read_header
header_within more job =
    passed job more 65536 _
    (passed job (ltb 65536 (length job)) 65536 _
    (passed job (not (has_command job 0 2 16)) 0 _
    (passed job (not (has_command job 2 4 17)) 2 _
    (passed job (not (has_command job 4 9 18)) 4 _
    (cond_both (ltb (length job) (text_end job)) (Err 4) (accepted (get_or job 1 0) (get_or job 3 0) (text_end job)) (Within job) (λ _. tt)
    (λ e. (text-after_header job, ltb-false (length job) (text_end job) e)))))))
