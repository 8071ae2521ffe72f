-- Small inputs and their answers: document 01's table, request E1's answers, what else is refused or accepted, and which of several faults decides.
use Rattle.std.specs.Prelude.{ℕ, zero, suc, Bool, true, ◌&&◌, List, [], ◌∷◌, ◌++◌, eqb}
use Rattle.tape.specs.Kinds.{Error, File, SetStatement, BareWord, StringToken}
use Rattle.tape.specs.Faults.{number}
use Rattle.tape.specs.Tree.{Tree}
use Rattle.tape.specs.Tape.{Read, refused, got}
use Rattle.tape.specs.Call.{read_call}

-- a call and what it is answered: 0 where it is accepted, else the refusal's number and its place
pub record SmallInput : Type 0 where
  pub width : ℕ
  pub case : ℕ
  pub text : List ℕ
  pub tape : List ℕ
  pub number : ℕ
  pub place : ℕ

abbrev pub answered_as : Read Tree → ℕ → ℕ → Bool
answered_as (refused f p) n q = eqb (number f) n && eqb p q
answered_as (got t p) n q = eqb n 0

abbrev pub hold : List SmallInput → Bool
hold [] = true
hold (s ∷ ss) = answered_as (read_call s.width s.case s.text s.tape) s.number s.place && hold ss

-- width 4, upper case
abbrev pub sample : List ℕ → List ℕ → ℕ → ℕ → SmallInput
sample text tape n p = record { width = 4; case = 1; text = text; tape = tape; number = n; place = p }

-- the command c with the kind k and the span from s to e, each below 256
abbrev pub command : ℕ → ℕ → ℕ → ℕ → List ℕ
command c k s e = c ∷ k ∷ 0 ∷ s ∷ 0 ∷ 0 ∷ 0 ∷ e ∷ 0 ∷ 0 ∷ 0 ∷ []

abbrev pub file : List ℕ
file = command 1 File 0 0

abbrev pub close : List ℕ
close = 3 ∷ []

abbrev pub times : ℕ → List ℕ → List ℕ
times zero x = []
times (suc n) x = x ++ times n x

-- U+00E9
abbrev pub e_acute : List ℕ
e_acute = 0xC3 ∷ 0xA9 ∷ []

abbrev pub small_inputs : List SmallInput
small_inputs =
    -- document 01's table, with an ill-formed text for 4; but for 3 and 5, which are too long to write out, and 13, which needs a layout
    record { width = 17; case = 1; text = []; tape = []; number = 1; place = 0 }
    ∷ record { width = 4; case = 2; text = []; tape = []; number = 2; place = 0 }
    ∷ sample (0xC3 ∷ 0x28 ∷ []) [] 4 0
    ∷ sample [] (4 ∷ []) 6 0
    ∷ sample [] (1 ∷ 0 ∷ 0 ∷ []) 7 0
    ∷ sample [] (1 ∷ 255 ∷ 255 ∷ 0 ∷ 0 ∷ 0 ∷ 0 ∷ 0 ∷ 0 ∷ 0 ∷ 0 ∷ []) 8 0
    ∷ sample [] (command 1 SetStatement 0 0) 9 0
    ∷ sample [] (file ++ command 2 BareWord 0 1) 10 11
    ∷ sample [] (times 65 file) 11 704
    ∷ sample [] (3 ∷ []) 12 0
    -- 15, at a span's end and at its start, for a token and for a node; a node with its start above its end has no span
    ∷ sample e_acute (file ++ command 2 StringToken 0 1) 15 11
    ∷ sample e_acute (file ++ command 2 StringToken 1 2) 15 11
    ∷ sample e_acute (file ++ command 2 StringToken 0 2 ++ close) 0 0
    ∷ sample e_acute (command 1 File 0 1) 15 0
    ∷ sample e_acute (command 1 File 1 2) 15 0
    ∷ sample e_acute (command 1 File 1 0 ++ close) 0 0
    -- 16
    ∷ sample e_acute (file ++ command 2 BareWord 0 2) 16 11
    ∷ sample (97 ∷ e_acute) (file ++ command 2 BareWord 0 1 ++ command 2 BareWord 3 3 ++ close) 0 0
    -- what else each refuses, and what is accepted beside it
    ∷ record { width = 16; case = 0; text = []; tape = file ++ close; number = 0; place = 0 }
    ∷ sample (97 ∷ 127 ∷ 128 ∷ []) [] 4 2
    ∷ sample (97 ∷ 0xE2 ∷ 0x82 ∷ []) [] 4 1
    ∷ sample (0xF4 ∷ 0x90 ∷ 0x80 ∷ 0x80 ∷ []) [] 4 0
    ∷ sample e_acute (file ++ close) 0 0
    ∷ sample [] (0 ∷ []) 6 0
    ∷ sample [] (2 ∷ []) 7 0
    ∷ sample [] (1 ∷ 2 ∷ 1 ∷ 0 ∷ 0 ∷ 0 ∷ 0 ∷ 0 ∷ 0 ∷ 0 ∷ 0 ∷ []) 8 0
    ∷ sample [] (1 ∷ 1 ∷ 1 ∷ 0 ∷ 0 ∷ 0 ∷ 0 ∷ 0 ∷ 0 ∷ 0 ∷ 0 ∷ 3 ∷ []) 0 0
    ∷ sample [] (file ++ command 2 SetStatement 0 0 ++ close) 0 0
    ∷ sample (97 ∷ []) (file ++ command 2 File 0 1 ++ close) 0 0
    ∷ sample (97 ∷ []) (file ++ command 2 File 1 0 ++ close) 10 11
    ∷ sample [] (command 1 Error 1 1 ++ close) 10 0
    ∷ sample [] (command 1 Error 1 0 ++ close) 0 0
    ∷ sample [] [] 12 0
    ∷ sample [] file 12 11
    ∷ sample [] (file ++ close ++ close) 12 12
    -- which of several faults decides
    ∷ record { width = 17; case = 2; text = 128 ∷ []; tape = 4 ∷ []; number = 1; place = 0 }
    ∷ record { width = 16; case = 2; text = 128 ∷ []; tape = 4 ∷ []; number = 2; place = 0 }
    ∷ sample (128 ∷ []) (4 ∷ []) 4 0
    ∷ sample [] (command 1 SetStatement 0 1) 9 0
    ∷ sample [] (times 64 file ++ command 1 SetStatement 0 1) 9 704
    ∷ sample [] (times 64 file ++ command 1 File 0 1) 10 704
    ∷ sample e_acute (command 1 SetStatement 0 1) 9 0
    ∷ sample e_acute (file ++ command 2 StringToken 1 3) 10 11
    ∷ sample e_acute (file ++ command 2 StringToken 1 0) 10 11
    ∷ sample e_acute (file ++ command 2 BareWord 0 1) 15 11
    ∷ sample e_acute (times 64 file ++ command 1 File 0 1) 15 704
    ∷ sample e_acute (file ++ command 2 BareWord 0 2 ++ command 2 StringToken 0 1) 16 11
    ∷ sample e_acute (command 2 BareWord 0 1) 12 0
    ∷ sample [] (command 2 255 0 1) 12 0
    ∷ sample [] (file ++ close ++ 4 ∷ []) 6 12
    ∷ sample [] (file ++ close ++ 1 ∷ []) 7 12
    ∷ sample [] (file ++ close ++ command 1 255 0 1) 12 12
    ∷ []
