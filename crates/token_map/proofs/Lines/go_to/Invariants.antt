-- `go_to` meets its contract. The invariant: the line starts at the offset or before it.
use Rattle.std.proofs.Common.{◌≡◌, ◌≤◌, ◌-◌}
use Rattle.token_map.proofs.Lines.go_to.Given as goal

abbrev pub invariant-loop-self : goal.invariant-loop-self
invariant-loop-self l = (l.self.out.now ≡ l.fn.self.out.now) × (l.self.line.start ≤ l.at)

abbrev pub decreases-loop-self : goal.decreases-loop-self
decreases-loop-self l = l.at - l.self.line.end
