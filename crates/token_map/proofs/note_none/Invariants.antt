-- `note_none` meets its contract. The invariant: so many tokens are noted.
use Rattle.std.proofs.Common.{◌≡◌, replicate}
use Rattle.token_map.specs.Notes.{note_all}
use Rattle.token_map.proofs.note_none.Given as goal

abbrev pub invariant-loop : goal.invariant-loop
invariant-loop l = l.map ≡ note_all (replicate l.counter 0) l.initial.map
