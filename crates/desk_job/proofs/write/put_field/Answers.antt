-- `put_field` meets its contract.
use Rattle.desk_job.proofs.Writing.{within, wrote_then}
use Rattle.desk_job.specs.Job.{field}
use Rattle.desk_job.proofs.write.put_field.Goals as goal

pub put_decimal-requires : goal.put_decimal-requires
put_decimal-requires c = within _ _ _ c.put_all-a.ensures

pub returns : goal.returns
unfolding field
returns c = wrote_then _ _ _ _ c.put_all-a.ensures c.put_decimal.ensures
