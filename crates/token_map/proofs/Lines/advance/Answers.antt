-- `advance` meets its contract: after the newline the next line begins.
use native.Mathlib.Omega.{arith}
use Rattle.token_map.proofs.Counting.{spot_turned, line-few}
use Rattle.token_map.proofs.Lines.advance.Goals as goal

pub overflow_add-self : goal.overflow_add-self
overflow_add-self c =
    let l = c.args.self.now.is_line in
    omega (arith, line-few l, l.ends.ordered, c.requires.counted)

pub invariant_of-self : goal.invariant_of-self
invariant_of-self c =
    record { is_line = record { agrees = spot_turned c.args.self.now.is_line c.requires.newline; ends = c.newline_from.ensures } }
