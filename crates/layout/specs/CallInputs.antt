-- The call on the small inputs of the refusals, which stand in tape, in no space and in some; and the small inputs that need a layout: 13, and
-- lengths.
use Rattle.std.specs.Prelude.{ℕ, Bool, true, cond, ◌&&◌, List, [], ◌∷◌, ◌++◌, replicate, eqb}
use Rattle.keywords.specs.Words.{bytes, same}
use Rattle.tape.specs.Kinds
use Rattle.tape.specs.ReadingInputs.{SmallInput, command, close}
use Rattle.layout.specs.Layout.{original}
use Rattle.layout.specs.Outcome.{Outcome, answers, outcome, laid_out, number_in}
use Rattle.layout.specs.CourseSheet.{tape_of, tree_b}

-- ── tape's rows

-- refused in no space and in three bytes, with the number and the place, and the three bytes stay as they are; or accepted, where the number is
-- 0, and no space names the same length
abbrev pub both_answer : Outcome → ℕ → ℕ → Bool
both_answer o number place =
    let none = (laid_out o []).answer in
    let after = laid_out o (7 ∷ 8 ∷ 9 ∷ []) in
    let needed = after.answer.value in
    cond (eqb number 0) (eqb after.answer.number 0 && answers none (number_in 0 needed) needed)
    (answers none number place && answers after.answer number place && same after.space (7 ∷ 8 ∷ 9 ∷ []))

abbrev pub all_both_answer : List SmallInput → Bool
all_both_answer [] = true
all_both_answer (s ∷ ss) = both_answer (outcome original s.width s.case s.text s.tape) s.number s.place && all_both_answer ss

-- ── laid out, or 13

-- a call that 1 to 12, 15 and 16 let pass: in the space it answers the number and the needed length, and so it does in no space, with 13 where
-- some byte is needed
pub record LayoutCall : Type 0 where
  pub text : List ℕ
  pub tape : List ℕ
  pub needed : ℕ
  pub space : List ℕ
  pub number : ℕ
  pub after : List ℕ

-- width 4, upper case
abbrev pub answered : LayoutCall → Bool
answered c =
    let o = outcome original 4 1 c.text c.tape in
    let r = laid_out o c.space in
    answers (laid_out o []).answer (number_in 0 c.needed) c.needed && answers r.answer c.number c.needed && same r.space c.after

abbrev pub all_answered : List LayoutCall → Bool
all_answered [] = true
all_answered (c ∷ cs) = answered c && all_answered cs

abbrev pub layout_b : List ℕ
layout_b = bytes "SELECT\n    a,\n    b\nFROM t\n"

-- course sheet B lent n bytes, all 7: the answer's number, and the space afterwards
abbrev pub call_b : ℕ → ℕ → List ℕ → LayoutCall
call_b n number after =
    record { text = bytes "select a,b from t"; tape = tape_of tree_b; needed = 27; space = replicate n 7; number = number; after = after }

-- a number of two blanks
abbrev pub blanks : List ℕ
blanks = command 1 Kinds.ColumnReference 0 2 ++ command 2 Kinds.Number 0 2 ++ close

unfoldable pub small_layouts : List LayoutCall
small_layouts =
    -- 26 and 27 bytes for B, and three more, which stay
    call_b 26 13 (replicate 26 7) ∷
    call_b 27 0 layout_b ∷
    call_b 30 0 (layout_b ++ replicate 3 7) ∷
    -- the text of the example job
    record { text = 97 ∷ []; tape = command 1 Kinds.Error 0 1 ++ close; needed = 2; space = 7 ∷ 7 ∷ []; number = 0; after = 97 ∷ 10 ∷ [] } ∷
    -- no byte is needed, so that none of space is enough: a File with no child, and two blanks, which are written and trimmed away
    record { text = []; tape = command 1 Kinds.File 0 0 ++ close; needed = 0; space = []; number = 0; after = [] } ∷
    record { text = 32 ∷ 32 ∷ []; tape = blanks; needed = 0; space = []; number = 0; after = [] } ∷
    record { text = 32 ∷ 32 ∷ []; tape = blanks; needed = 0; space = 7 ∷ 7 ∷ []; number = 0; after = 7 ∷ 7 ∷ [] } ∷
    []
