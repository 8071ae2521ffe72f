-- `white_before` meets its contract.
use native.Mathlib.Omega.{arith}
use mathlib.Core.Path.{sym, ap, ◌∙◌}
use lib.ListN.{take}
use Rattle.utf8.specs.Steps.{unless_zero}
use Rattle.utf8.proofs.LastWhiteSpace.{byte-before, none_before, pair-before, triple_before}
use Rattle.utf8.proofs.white_before.Goals as goal

pub returns-in-len1-up : goal.returns-in-len1-up
returns-in-len1-up c = ap unless_zero (byte-before (take c.args.n c.args.text.now) c.in-len1-up.len_at_least (sym c.is_white_byte.ensures ∙ c.if-is_white_byte.true))

pub returns-in-len2-up : goal.returns-in-len2-up
returns-in-len2-up c = ap unless_zero (pair-before (take c.args.n c.args.text.now) c.in-len2-up.len_at_least (sym c.is_white_pair.ensures ∙ c.if-is_white_pair.true))

pub returns-in-len3-up : goal.returns-in-len3-up
returns-in-len3-up c = ap unless_zero (triple_before (take c.args.n c.args.text.now) c.in-len3-up.len_at_least (sym c.is_white_triple.ensures ∙ c.if-is_white_triple.true))

pub returns-in_default : goal.returns-in_default
returns-in_default c = ap unless_zero (none_before (take c.args.n c.args.text.now) (λ h. absurd (omega (arith, c.in_default.len_below))) (λ h. absurd (omega (arith, c.in_default.len_below))) (λ h. absurd (omega (arith, c.in_default.len_below))))

pub returns-in_default-2 : goal.returns-in_default-2
returns-in_default-2 c =
    ap unless_zero (none_before (take c.args.n c.args.text.now) (λ h. sym c.is_white_byte.ensures ∙ c.if-is_white_byte.false) (λ h. absurd (omega (arith, c.in_default.len_below))) (λ h. absurd (omega (arith, c.in_default.len_below))))

pub returns-in_default-3 : goal.returns-in_default-3
returns-in_default-3 c =
    ap unless_zero (none_before (take c.args.n c.args.text.now) (λ h. sym c.is_white_byte.ensures ∙ c.if-is_white_byte.false) (λ h. sym c.is_white_pair.ensures ∙ c.if-is_white_pair.false) (λ h. absurd (omega (arith, c.in_default.len_below))))

pub returns-in_default-4 : goal.returns-in_default-4
returns-in_default-4 c =
    ap unless_zero (none_before (take c.args.n c.args.text.now) (λ h. sym c.is_white_byte.ensures ∙ c.if-is_white_byte.false) (λ h. sym c.is_white_pair.ensures ∙ c.if-is_white_pair.false) (λ h. sym c.is_white_triple.ensures ∙ c.if-is_white_triple.false))
