-- `replay_list` meets its contract: after each turn the definition from the next record on, with what is counted so far, is that of the list.
use Rattle.replay_list.proofs.Replaying.{Reached}
use Rattle.replay_list.proofs.replay.replay_list.Given as goal

abbrev pub invariant-loop-at : goal.invariant-loop-at
invariant-loop-at l = Reached l.more l.list l.records l.at l.tally l.rest
