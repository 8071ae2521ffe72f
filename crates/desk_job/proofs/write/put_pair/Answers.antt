-- `put_pair` meets its contract.
use Rattle.desk_job.proofs.Writing.{within, wrote_then}
use Rattle.desk_job.specs.Job.{pair}
use Rattle.desk_job.proofs.write.put_pair.Goals as goal

pub put_field-b-requires : goal.put_field-b-requires
put_field-b-requires c = within _ _ _ c.put_field-a.ensures

pub put_all-requires : goal.put_all-requires
put_all-requires c = within _ _ _ c.put_field-b.ensures

pub returns : goal.returns
unfolding pair
returns c = wrote_then _ _ _ _ (wrote_then _ _ _ _ c.put_field-a.ensures c.put_field-b.ensures) c.put_all.ensures
