-- When the call agrees with a record, in the record's space and in none.
use Rattle.std.specs.Prelude.{ℕ, ◌-◌, Bool, cond, ◌&&◌, List, [], ◌++◌, length, replicate, eqb}
use Rattle.keywords.specs.Words.{same}
use Rattle.layout.specs.Outcome.{Outcome, Result, answers, laid_out, number_in}

-- the number in no space: where the record has 0, it is 13 unless no byte is needed
abbrev pub no_space_number : ℕ → ℕ → ℕ
no_space_number number value = cond (eqb number 0) (number_in 0 value) number

-- the record's answer, and its layout in a space of 255s
abbrev pub same_result : Result → ℕ → ℕ → List ℕ → Bool
same_result r number value layout =
    answers r.answer number value && same r.space (layout ++ replicate (length r.space - length layout) 255)

-- both calls agree, the one in no space and the one in a space of so many bytes
unfoldable pub calls_agree : Outcome → ℕ → ℕ → List ℕ → ℕ → Bool
calls_agree o number value layout room =
    answers (laid_out o []).answer (no_space_number number value) value && same_result (laid_out o (replicate room 255)) number value layout
