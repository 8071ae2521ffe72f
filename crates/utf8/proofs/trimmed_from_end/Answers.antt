-- `trimmed_from_end` meets its contract: what lies from n on is white space.
use native.Mathlib.Omega.{arith}
use mathlib.Core.Path.{refl, sym, ◌∙◌}
use lib.ListN.{take}
use Rattle.utf8.specs.Pieces.{pieces}
use Rattle.utf8.specs.Steps.{end_white}
use Rattle.utf8.proofs.Trimming.{stop, short, back}
use Rattle.utf8.proofs.UnlessZero.{length_or, zero_or}
use Rattle.utf8.proofs.trimmed_from_end.Goals as goal

pub overflow_sub-n : goal.overflow_sub-n
overflow_sub-n c =
    let k = length_or (end_white (pieces (take c.loop-k.n c.args.text.now))) c.white_before.ensures c.in-Some.is in
    omega (arith, short _ _ _ c.loop-k.invariant.0 k.0 (λ z. omega (arith, k.1)))

pub loop-k-smaller : goal.loop-k-smaller
loop-k-smaller c =
    let k = length_or (end_white (pieces (take c.loop-k.n c.args.text.now))) c.white_before.ensures c.in-Some.is in
    omega (arith, k.1, short _ _ _ c.loop-k.invariant.0 k.0 (λ z. omega (arith, k.1)))

pub loop-k-preserved : goal.loop-k-preserved
loop-k-preserved c =
    let k = length_or (end_white (pieces (take c.loop-k.n c.args.text.now))) c.white_before.ensures c.in-Some.is in
    (omega (arith, c.loop-k.invariant.0), c.loop-k.invariant.1 ∙ back _ _ _ c.loop-k.invariant.0 k.0 (λ z. omega (arith, k.1)))

pub returns : goal.returns
returns c = sym (c.loop-k.invariant.1 ∙ stop _ _ _ c.loop-k.invariant.0 refl (zero_or _ c.white_before.ensures c.in_default.is))
