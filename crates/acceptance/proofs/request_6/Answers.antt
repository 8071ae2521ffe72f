-- `request_6` meets its contract. With the lemma named at the function the check finds no proof, since no demand of it names the working space.
use Rattle.acceptance.proofs.Reports.{report_over}
use Rattle.acceptance.proofs.request_6.Goals as goal

pub returns : goal.returns
returns c = report_over _ _ _ _ _ _ _ _ c.report_from.ensures
