-- `request_5` meets its contract. With the lemma named at the function the check finds no proof, since it answers a pair.
use Rattle.acceptance.proofs.Requests.{one_call}
use Rattle.acceptance.proofs.request_5.Goals as goal

pub returns : goal.returns
returns c = let a = c.args in one_call a.width a.case a.text.now a.tape.now a.out_a.now a.out_b.now _ _ _ c.layout_twice.ensures
