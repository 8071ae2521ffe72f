-- `demand_3` meets its contract. With the lemma named at the function the check finds no proof, since it answers a pair.
use Rattle.acceptance.proofs.Demands.{demand3}
use Rattle.acceptance.proofs.demand_3.Goals as goal

pub returns : goal.returns
returns c = let a = c.args in demand3 a.width a.case a.a.now a.b.now a.tape.now a.out_a.now a.out_b.now _ _ _ c.layout_both.ensures
