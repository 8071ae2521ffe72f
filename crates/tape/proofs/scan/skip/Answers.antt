-- `skip` meets its contract. The loops' invariant is `Skipping`, the measure what is left of the tape.
use native.Mathlib.Omega.{arith}
use Rattle.tape.proofs.Skips.{skip_first, skip_low, skip_close, skip_open, skip_token, skip_last}
use Rattle.tape.proofs.scan.skip.Goals as goal

pub loop-depth-init : goal.loop-depth-init
loop-depth-init c = skip_first c.requires

pub bounds-tape-i : goal.bounds-tape-i
bounds-tape-i c = let v = c.loop-i.invariant in omega (arith, skip_low v.0, v.2)

pub loop-i-preserved : goal.loop-i-preserved
loop-i-preserved c = let v = c.loop-i.invariant in (skip_token v.2 c.loop-i-test.true v.0, omega (arith, v.1), v.2)

pub bounds-tape-i-in-loop-depth : goal.bounds-tape-i-in-loop-depth
bounds-tape-i-in-loop-depth c = let v = c.loop-i.invariant in omega (arith, skip_low v.0, v.2)

pub loop-depth-preserved-then-tape-i-eq-CLOSE : goal.loop-depth-preserved-then-tape-i-eq-CLOSE
loop-depth-preserved-then-tape-i-eq-CLOSE c = let v = c.loop-i.invariant in skip_close v.2 c.if-tape-i-eq-CLOSE.true v.0

pub overflow_add-depth : goal.overflow_add-depth
overflow_add-depth c = let v = c.loop-i.invariant in omega (arith, skip_low v.0)

pub overflow_add-i-else-tape-i-eq-CLOSE : goal.overflow_add-i-else-tape-i-eq-CLOSE
overflow_add-i-else-tape-i-eq-CLOSE c = let v = c.loop-i.invariant in omega (arith, skip_low v.0)

pub loop-depth-smaller : goal.loop-depth-smaller
loop-depth-smaller c = let v = c.loop-i.invariant in omega (arith, skip_low v.0, v.1, v.2)

pub loop-depth-preserved : goal.loop-depth-preserved
loop-depth-preserved c = let v = c.loop-i.invariant in skip_open v.2 c.loop-i-test.false c.if-tape-i-eq-CLOSE.false v.0

pub returns : goal.returns
returns c = skip_last c.loop-depth-test.false c.loop-depth.invariant
