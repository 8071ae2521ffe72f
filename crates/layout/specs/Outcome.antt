-- The call: what it answers, and what the output space holds afterwards. To measure is to call with an output space of 0 bytes.
use Rattle.std.specs.Prelude.{ℕ, Bool, true, false, cond, ◌&&◌, ◌||◌, List, ◌++◌, length, drop, leb, eqb, Result as Checked, Ok, Err}
use Rattle.context.specs.Cells.{Text, Cell, bytes_of}
use Rattle.context.specs.declared.FormatConfig.{FormatConfig}
use Rattle.tape.specs.declared.Fault.{Fault}
use Rattle.tape.specs.Faults.{number}
use Rattle.tape.specs.Tree.{Tree}
use Rattle.tape.specs.Tape.{Read, refused, got}
use Rattle.tape.specs.Call.{read_call}
use Rattle.layout.specs.declared.Answer.{Answer}
use Rattle.layout.specs.declared.Refused.{Refused}
use Rattle.layout.specs.declared.Refused.TheVariants.{Input, OutputSpace, MapSpace}
use Rattle.layout.specs.Layout.{Version, format}

-- refused, for what and where; or laid out
pub data Outcome : Type 0 where
  refusal : Fault → ℕ → Outcome
  laid : List Cell → Outcome

abbrev pub of_read : Read Tree → (Tree → List Cell) → Outcome
of_read (refused f p) lay = refusal f p
of_read (got t p) lay = laid (lay t)

abbrev pub config_of : ℕ → ℕ → FormatConfig
config_of width case = record { indent_width = width; uppercase_keywords = eqb case 1 }

-- 1 to 12, 15 or 16, else the layout
unfoldable pub outcome : Version → ℕ → ℕ → Text → List ℕ → Outcome
outcome v width case text tape = of_read (read_call width case text tape) (format v (config_of width case) text)

abbrev pub answer : ℕ → ℕ → Answer
answer n v = record { number = n; value = v }

-- the number and the second number of each refusal: the place, the needed length, or the count of numbers needed
abbrev pub refused_number : Refused → ℕ
refused_number (Input r) = number r.fault
refused_number (OutputSpace n) = 13
refused_number (MapSpace n) = 17

abbrev pub refused_value : Refused → ℕ
refused_value (Input r) = r.at
refused_value (OutputSpace n) = n
refused_value (MapSpace n) = n

-- what a call answers, as two numbers; no two answers have the same ones (answer_of-injective, layout/proofs/AnswerNumbers)
abbrev pub answer_of : Checked ℕ Refused → Answer
answer_of (Ok n) = answer 0 n
answer_of (Err r) = answer (refused_number r) (refused_value r)

-- the answer is these two numbers
abbrev pub answers : Answer → ℕ → ℕ → Bool
answers a n v = eqb a.number n && eqb a.value v

-- an answer, and the output space afterwards
pub record Result : Type 0 where
  pub answer : Answer
  pub space : List ℕ

-- 13, unless the layout fits
abbrev pub fitted : Bool → List Cell → List ℕ → Result
fitted true cs space = record { answer = answer 0 (length cs); space = bytes_of cs ++ drop (length cs) space }
fitted false cs space = record { answer = answer 13 (length cs); space = space }

-- what the call makes of an outcome
unfoldable pub laid_out : Outcome → List ℕ → Result
laid_out (refusal f p) space = record { answer = answer (number f) p; space = space }
laid_out (laid cs) space = fitted (leb (length cs) (length space)) cs space

-- 0 where a space of so many bytes holds the needed ones, else 13
abbrev pub number_in : ℕ → ℕ → ℕ
number_in room needed = cond (leb needed room) 0 13

-- 0 or 13: the answer's value is the needed length
abbrev pub names_length : Answer → Bool
names_length a = eqb a.number 0 || eqb a.number 13
