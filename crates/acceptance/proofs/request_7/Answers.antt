-- `request_7` meets its contract. With the lemma named at the function the check finds no proof, since it answers a pair.
use Rattle.acceptance.proofs.Reports.{same-report}
use Rattle.acceptance.proofs.request_7.Goals as goal

pub returns : goal.returns
returns c = same-report _ _ _ _ _ _ _ _ _ _ _ c.report_both.ensures
