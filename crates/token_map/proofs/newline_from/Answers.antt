-- `newline_from` meets its contract: from a place that the search gives to one of the bytes.
use Rattle.std.proofs.Common.{◌≡◌, true, false, eqb, rules, tests}
use Rattle.std.proofs.lemmas.Iterator.{IsFirst-from_position, YieldsList-from_slice}
use Rattle.token_map.proofs.Counting.{rest, ends-found, ends-last}
use Rattle.token_map.proofs.newline_from.Goals as goal

pub returns-in-Some : goal.returns-in-Some
returns-in-Some c =
    let f = IsFirst-from_position _ _ _ (λ b. eqb b 10 ≡ true) (λ b. eqb b 10 ≡ false) c.in-Some.ensures.ran (YieldsList-from_slice (rest c.args.out.now c.args.from c.requires) c.iter.ensures.rest) (λ x q k. search (rules, tests)) (λ x q k. search (rules, tests)) in
    ends-found _ _ c.requires _ f.0 f.1 f.2

pub returns-in-None : goal.returns-in-None
returns-in-None c =
    ends-last _ _ c.requires
    (IsFirst-from_position _ _ _ (λ b. eqb b 10 ≡ true) (λ b. eqb b 10 ≡ false) c.in-None.ensures.ran (YieldsList-from_slice (rest c.args.out.now c.args.from c.requires) c.iter.ensures.rest) (λ x q k. search (rules, tests)) (λ x q k. search (rules, tests)))
