-- `context::buffer::count_newlines` meets its contract: after the bytes gone over, their newlines are counted.
use Rattle.std.proofs.Common.{◌≡◌, eqb, take}
use Rattle.std.specs.List.{count_by}
use Rattle.context.proofs.buffer.count_newlines.Given as goal

abbrev pub invariant-loop-b : goal.invariant-loop-b
invariant-loop-b l = l.n ≡ count_by (λ x. eqb x 10) (take l.b-index l.text)
