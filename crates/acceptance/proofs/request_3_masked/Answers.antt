-- `request_3_masked` meets its contract. With the lemma named at the function the check finds no proof, since it answers a pair.
use Rattle.acceptance.proofs.Maps.{maps-masked}
use Rattle.acceptance.proofs.request_3_masked.Goals as goal

pub returns : goal.returns
returns c = maps-masked _ _ _ _ _ _ _ _ _ _ _ _ _ _ c.layout_map_both.ensures
