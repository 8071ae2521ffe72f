-- The desk's program: how a job is read, and what is printed for it.
use Rattle.std.specs.Prelude.{ℕ, zero, suc, ◌+◌, ◌-◌, ◌/◌, ◌%◌, Bool, cond, not, ◌&&◌, List, [], ◌∷◌, ◌++◌, length, get_or, take, drop, leb, ltb, eqb, Result, Ok, Err}
use Rattle.context.specs.Cells.{bytes_of}
use Rattle.keywords.specs.Words.{bytes}
use Rattle.tape.specs.Faults.{number}
use Rattle.tape.specs.Tape.{u32_at}
use Rattle.layout.specs.Layout.{original}
use Rattle.layout.specs.declared.Answer.{Answer}
use Rattle.layout.specs.Outcome.{Outcome, refusal, laid, Result as CallResult, answer, refused_number, refused_value, outcome}
use Rattle.desk_job.specs.declared.Header.{Header}
use Rattle.desk_job.specs.declared.JobRefused.{JobRefused}
use Rattle.desk_job.specs.declared.JobRefused.TheVariants.{Header as BadHeader, Layout}

-- the command stands at `at`, whole up to `end`
unfoldable pub has_command : List ℕ → ℕ → ℕ → ℕ → Bool
has_command job at end command = leb end (length job) && eqb (get_or job at 0) command

-- the text's length stands at 5, and the text begins at 9
unfoldable pub text_end : List ℕ → ℕ
text_end job = 9 + u32_at job 5

abbrev pub accepted : ℕ → ℕ → ℕ → Result Header ℕ
accepted width case end = Ok (record { width = width; case = case; end = end })

-- or the place of a refusal; `more`: the input goes on after the job's bytes; a text cut short is its command cut short
unfoldable pub read_header : Bool → List ℕ → Result Header ℕ
read_header more job =
    cond more (Err 65536)
    (cond (ltb 65536 (length job)) (Err 65536)
    (cond (not (has_command job 0 2 16)) (Err 0)
    (cond (not (has_command job 2 4 17)) (Err 2)
    (cond (not (has_command job 4 9 18)) (Err 4)
    (cond (ltb (length job) (text_end job)) (Err 4)
    (accepted (get_or job 1 0) (get_or job 3 0) (text_end job)))))))

-- what the program answers for a job: a refusal's number and place, or the text of the layout
pub data Answered : Type 0 where
  refused : ℕ → ℕ → Answered
  text : List ℕ → Answered

-- 1 to 12, 15 or 16, else the layout if it fits into so many bytes, else 13
unfoldable pub answered_outcome : Outcome → ℕ → Answered
answered_outcome (refusal f p) room = refused (number f) p
answered_outcome (laid cs) room = cond (leb (length cs) room) (text (bytes_of cs)) (refused 13 (length cs))

-- 14, else what the two calls' definition says of width, case, text and tape
unfoldable pub answered_job : Result Header ℕ → List ℕ → ℕ → Answered
answered_job (Err p) job room = refused 14 p
answered_job (Ok h) job room =
    answered_outcome (outcome original h.width h.case (take (h.end - 9) (drop 9 job)) (drop h.end job)) room

-- the answer to a job, with an output buffer of `room` bytes
abbrev pub answered : Bool → List ℕ → ℕ → Answered
answered more job room = answered_job (read_header more job) job room

-- 14 and the place in the header, or the two numbers of what `layout` refuses
abbrev pub refusal_number : JobRefused → ℕ
refusal_number (BadHeader p) = 14
refusal_number (Layout r) = refused_number r

abbrev pub refusal_place : JobRefused → ℕ
refusal_place (BadHeader p) = p
refusal_place (Layout r) = refused_value r

-- what the program answers for a job, as two numbers: 0 and the length, or a refusal's number and place
abbrev pub job_answer : Result ℕ JobRefused → Answer
job_answer (Ok n) = answer 0 n
job_answer (Err r) = answer (refusal_number r) (refusal_place r)

-- the same as two numbers, as `layout` has them, and the output buffer afterwards
unfoldable pub leaves : Answered → List ℕ → CallResult
leaves (refused n p) space = record { answer = answer n p; space = space }
leaves (text bs) space = record { answer = answer 0 (length bs); space = bs ++ drop (length bs) space }

-- the decimal digits of n, at most so many
unfoldable pub decimal : ℕ → ℕ → List ℕ
decimal zero n = []
decimal (suc places) n = cond (ltb n 10) ((48 + n) ∷ []) (decimal places (n / 10) ++ ((48 + n % 10) ∷ []))

-- a label and a number after it; a number of 64 bits has at most 20 digits
unfoldable pub field : List ℕ → ℕ → List ℕ
field label n = label ++ decimal 20 n

-- two of them, and a newline
unfoldable pub pair : List ℕ → ℕ → List ℕ → ℕ → List ℕ
pair first x second y = field first x ++ field second y ++ (10 ∷ [])

-- refused N at P, and a newline
unfoldable pub refused_line : ℕ → ℕ → List ℕ
refused_line n p = pair (bytes "refused ") n (bytes " at ") p

-- the text alone, or the line of the refusal
unfoldable pub printed_answer : Answered → List ℕ
printed_answer (refused n p) = refused_line n p
printed_answer (text bs) = bs

-- what is printed for a job, with an output buffer of `room` bytes
abbrev pub printed : Bool → List ℕ → ℕ → List ℕ
printed more job room = printed_answer (answered more job room)
