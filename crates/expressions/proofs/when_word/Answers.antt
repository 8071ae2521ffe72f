-- `when_word` meets its contract.
use native.Mathlib.Omega.{arith}
use mathlib.Core.Path.{◌∙◌, sym}
use Rattle.layout.specs.Routines.{when_word}
use Rattle.tokens.proofs.Runs.{acted, as_acts, did-space, then}
use Rattle.expressions.proofs.when_word.Goals as goal

pub returns-then-is_word : goal.returns-then-is_word
unfolding when_word
returns-then-is_word c = acted 4 _ (omega arith) (rw (sym c.is_word.ensures ∙ c.if-is_word.true)) (then c.write_word.ensures (as_acts (did-space c.write_space.ensures)))

pub returns-then-is_word-2 : goal.returns-then-is_word-2
unfolding when_word
returns-then-is_word-2 c =
    acted 4 _ (omega arith) (rw (sym c.is_word.ensures ∙ c.if-is_word.false, sym c.is_word-2.ensures ∙ c.if-is_word-2.true))
    (then (as_acts (did-space c.write_space-then-is_word-2.ensures)) (then c.write_word-then-is_word-2.ensures (as_acts (did-space c.write_space-then-is_word-2-2.ensures))))

pub returns : goal.returns
unfolding when_word
returns c =
    acted 4 _ (omega arith) (rw (sym c.is_word.ensures ∙ c.if-is_word.false, sym c.is_word-2.ensures ∙ c.if-is_word-2.false))
    (then c.write_word-2.ensures (as_acts (did-space c.write_space-2.ensures)))
