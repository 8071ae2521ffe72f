-- What the reader of commands answers, and the tests of a command's operands: with the place.
use Rattle.std.specs.Prelude.{ℕ, ◌≡◌, List, Result, Ok, Err}
use Rattle.tape.specs.declared.Fault.{Fault}
use Rattle.tape.specs.declared.Fault.TheVariants.{CutCommand}
use Rattle.tape.specs.declared.Refusal.{Refusal}
use Rattle.tape.specs.declared.commands.ReadCommand.{ReadCommand}
use Rattle.tape.specs.declared.commands.ReadCommand.TheVariants.{Open, Token, Close}
use Rattle.tape.specs.Tape.{head_at, Command, faulty, opens, is_token, closes}

-- which command it is
abbrev pub sort_of : Result ReadCommand Refusal → Command
sort_of (Ok (Open h)) = opens
sort_of (Ok (Token t)) = is_token
sort_of (Ok Close) = closes
sort_of (Err r) = faulty r.fault

-- it is read at p: its operands, and a refusal's place
abbrev pub ReadAt : List ℕ → ℕ → Result ReadCommand Refusal → Type 0
ReadAt tape p (Ok (Open h)) = h ≡ head_at tape p
ReadAt tape p (Ok (Token t)) = t ≡ head_at tape p
ReadAt tape p (Ok Close) = Unit {0}
ReadAt tape p (Err r) = r.at ≡ p

abbrev pub cut_at : ℕ → Refusal
cut_at p = record { fault = CutCommand; at = p }

-- what is found at p
abbrev pub placed : ℕ → Result (Unit {0}) Fault → Result (Unit {0}) Refusal
placed p (Ok u) = Ok u
placed p (Err f) = Err (record { fault = f; at = p })
