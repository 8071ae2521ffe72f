-- `put_decimal` meets its contract. The measure is the places left.
use Rattle.desk_job.proofs.write.+put_decimal.Given as goal

abbrev pub decreases-put_decimal : goal.decreases-put_decimal
decreases-put_decimal l = l.places
