-- `same_space` meets its contract: the layout is at the front, and the rest decides.
use Rattle.std.proofs.Common.{◌∙◌, None, Some, eqb, rules, tests}
use Rattle.std.proofs.lemmas.Bool.Decides.{Decides-eqb}
use Rattle.std.proofs.lemmas.Iterator.{YieldsList-from_slice}
use Rattle.std.proofs.lemmas.Iterator.Search.{all_from_yields_List}
use Rattle.std.proofs.lemmas.Slice.Eq.{strip_prefix_is}
use Rattle.replay_list.proofs.Agreeing.{compared_rest, not_in_front}
use Rattle.replay_list.proofs.agree.same_space.Goals as goal

pub returns-in_default : goal.returns-in_default
returns-in_default c =
    let a = c.args in
    not_in_front a.out.now a.expected.now (strip_prefix_is Decides-eqb a.out.now a.expected.now None c.in_default.ensures.cases)

pub returns : goal.returns
returns c =
    let a = c.args in
    all_from_yields_List (λ b. eqb b 255) _ _ _ c.all.ensures.ran (YieldsList-from_slice c.in-Some.rest.now c.iter.ensures.rest) (λ x b q k. search (rules, tests))
    ∙ compared_rest a.out.now a.expected.now c.in-Some.rest.now (strip_prefix_is Decides-eqb a.out.now a.expected.now (Some c.in-Some.rest) c.in-Some.ensures.cases)
