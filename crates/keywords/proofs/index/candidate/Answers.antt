-- `candidate` meets its contract.
use mathlib.Core.Path.{ap, ◌∙◌}
use Prim.Native.Nat.{ℕ}
use native.Mathlib.Omega.{arith}
use lib.Dec.{eqb}
use Rattle.std.specs.Bool.{then_some}
use Rattle.keywords.proofs.Lookup.{candidate-is}
use Rattle.keywords.proofs.index.candidate.Goals as goal

pub returns-in_err-entry : goal.returns-in_err-entry
returns-in_err-entry c =
    c.from_residual.ensures ∙ candidate-is c.args.word.now c.from.result _ _ (c.from.ensures ∙ c.key_of.ensures) (omega arith) (c.in_err-entry.was) c.if-word-lt2.false c.if-word-gt-LONGEST.false

pub returns : goal.returns
returns c =
    let e = c.in_ok-entry.entry in
    c.then_some.ensures ∙ ap (λ (n : ℕ). then_some (eqb e.first n) e) c.letter.ensures
    ∙ candidate-is c.args.word.now c.from.result _ _ (c.from.ensures ∙ c.key_of.ensures) (omega arith) (c.in_ok-entry.was) c.if-word-lt2.false c.if-word-gt-LONGEST.false
