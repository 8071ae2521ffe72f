-- The small lists hold of the definition: one computed test over the table.
use lib.Dec.{T}
use Rattle.keywords.specs.Words.{same}
use Rattle.tape.specs.Call.{read_call}
use Rattle.layout.specs.Outcome.{outcome, laid_out}
use Rattle.desk_job.specs.Job.{decimal}
use Rattle.replay_list.specs.Record.{head_of, run_fits, fitting}
use Rattle.replay_list.specs.Agreement.{calls_agree}
use Rattle.replay_list.specs.Replay.{record_agrees, verdict_on, verdict, counted, after_record, replayed_from, replayed}
use Rattle.replay_list.specs.Line.{bad_line, end_line, replayed_line}
use Rattle.replay_list.specs.SmallLists.{small_lists, all_printed}

pub small_lists_lem : T (all_printed small_lists)
unfolding same read_call outcome laid_out decimal head_of run_fits fitting calls_agree record_agrees verdict_on verdict counted after_record replayed_from replayed bad_line end_line replayed_line small_lists
small_lists_lem = tt
