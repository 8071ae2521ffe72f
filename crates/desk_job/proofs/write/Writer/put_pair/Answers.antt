-- `Writer::put_pair` meets its contract: it ends within the space.
use Rattle.desk_job.proofs.Writing.{within}
use Rattle.desk_job.proofs.write.Writer.put_pair.Goals as goal

pub invariant_of-self : goal.invariant_of-self
invariant_of-self c = record { within = within _ _ _ c.put_pair-self.ensures }
