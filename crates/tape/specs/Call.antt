-- A whole call: refusals 1 to 5 in their order, then those of the tape; and which of them look at the text's bytes.
use Rattle.std.specs.Prelude.{ℕ, Bool, true, cond, not, List, [], ◌∷◌, length, ltb, Option, Some, None}
use Rattle.basics.specs.Match.{among}
use Rattle.utf8.specs.Pieces.{first_ill_formed}
use Rattle.tape.specs.declared.Fault.{Fault}
use Rattle.tape.specs.declared.Fault.TheVariants.{IndentWidth, CaseByte, TextTooLong, IllFormed, TapeTooLong}
use Rattle.tape.specs.Faults.{number}
use Rattle.tape.specs.Tree.{Tree}
use Rattle.tape.specs.Tape.{Read, refused, got, tests_of, read_tape}

-- 4, or what comes after it
abbrev pub by_place : Option ℕ → Read Tree → Read Tree
by_place (Some p) next = refused IllFormed p
by_place None next = next

-- 3 to 12, 15 and 16: text and tape
unfoldable pub read_input : List ℕ → List ℕ → Read Tree
read_input text tape =
    cond (ltb 262144 (length text)) (refused TextTooLong 0)
    (by_place (first_ill_formed 0 text)
    (cond (ltb 262144 (length tape)) (refused TapeTooLong 0) (read_tape (tests_of text) tape)))

-- 1 to 12, 15 and 16: settings, text and tape
unfoldable pub read_call : ℕ → ℕ → List ℕ → List ℕ → Read Tree
read_call width case text tape =
    cond (ltb 16 width) (refused IndentWidth 0) (cond (ltb 1 case) (refused CaseByte 0) (read_input text tape))

-- 4, 15 and 16, which look at the text's bytes
abbrev pub of_bytes : Fault → Bool
of_bytes f = among (number f) (4 ∷ 15 ∷ 16 ∷ [])

-- these let a reading pass
abbrev pub let_pass : {A : Type 0} → Read A → Bool
let_pass (refused f p) = not (of_bytes f)
let_pass (got a p) = true
