-- No two answers of a call have the same two numbers.
use Prim.Native.Nat.{ℕ}
use mathlib.Core.Path.{◌≡◌, refl, sym, ap, ◌∙◌}
use mathlib.Core.Bool.{cond}
use mathlib.Core.List.{List, [], ◌∷◌}
use lib.ListN.{get_or}
use lib.Dec.{eqb}
use Rattle.std.specs.Prelude.{Result, Ok, Err}
use Rattle.tape.specs.declared.Fault.{Fault}
use Rattle.tape.specs.declared.Fault.TheVariants.{IndentWidth, CaseByte, TextTooLong, IllFormed, TapeTooLong, UnknownCommand, CutCommand, UnknownKind, KindNotCarried, SpanOutside, TooDeep, NotOneRoot, InsideCharacter, WordNotAscii}
use Rattle.tape.specs.Faults.{number}
use Rattle.layout.specs.declared.Answer.{Answer}
use Rattle.layout.specs.declared.Refused.{Refused}
use Rattle.layout.specs.declared.Refused.TheVariants.{Input, OutputSpace, MapSpace}
use Rattle.layout.specs.Outcome.{answer_of}

-- the fault of a number, 0, 13 and 14 being none's
abbrev faults : List Fault
faults =
    IndentWidth ∷ IndentWidth ∷ CaseByte ∷ TextTooLong ∷ IllFormed ∷ TapeTooLong ∷ UnknownCommand ∷ CutCommand ∷ UnknownKind ∷ KindNotCarried ∷ SpanOutside
    ∷ TooDeep ∷ NotOneRoot ∷ IndentWidth ∷ IndentWidth ∷ InsideCharacter ∷ WordNotAscii ∷ []

-- an answer again from its two numbers
abbrev answer_again : Answer → Result ℕ Refused
answer_again a =
    cond (eqb a.number 0) (Ok a.value)
    (cond (eqb a.number 13) (Err (OutputSpace a.value))
    (cond (eqb a.number 17) (Err (MapSpace a.value))
    (Err (Input (record { fault = get_or faults a.number IndentWidth; at = a.value })))))

input_again : (f : Fault) (p : ℕ) → answer_again (record { number = number f; value = p }) ≡ Err (Input (record { fault = f; at = p }))
input_again IndentWidth p = refl
input_again _ p = refl

same_again : (r : Result ℕ Refused) → answer_again (answer_of r) ≡ r
same_again (Err (Input r)) = input_again r.fault r.at
same_again _ = refl

pub answer_of-injective : (r s : Result ℕ Refused) → answer_of r ≡ answer_of s → r ≡ s
answer_of-injective r s e = sym (same_again r) ∙ ap answer_again e ∙ same_again s
