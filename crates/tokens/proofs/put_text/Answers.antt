-- `put_text` meets its contract.
use Rattle.tokens.proofs.Runs.{full_put}
use Rattle.tokens.proofs.put_text.Goals as goal

pub returns-then-out-at : goal.returns-then-out-at
returns-then-out-at c = record { left = c.trimmed_length.ensures; written = full_put _ _ _ _ _ c.if-out-at.true }
