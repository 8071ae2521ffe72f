-- `command_at` meets its contract: each answer by the byte and by what is left of the tape.
use Rattle.std.proofs.lemmas.Result.{err_from_is_err_and}
use Rattle.tape.proofs.KnownCommands.{at-close, at_open, at-token, at_cut, at-unknown}
use native.Mathlib.Omega.{arith}
use Rattle.tape.proofs.commands.command_at.Goals as goal

pub returns-in_err-whole_head-in-1-clause-sort : goal.returns-in_err-whole_head-in-1-clause-sort
returns-in_err-whole_head-in-1-clause-sort c =
    let p = err_from_is_err_and c.from_residual.result c.from_residual.ensures.1 in
    rw (p.1, p.2, c.in_err-whole_head-in-1.ensures.1) (at_cut _ _ c.requires c.in_err-whole_head-in-1.ensures.0 (omega (arith, c.in-1.is)) (omega (arith, c.in-1.is)))

pub returns-in_err-whole_head-in-2-clause-sort : goal.returns-in_err-whole_head-in-2-clause-sort
returns-in_err-whole_head-in-2-clause-sort c =
    let p = err_from_is_err_and c.from_residual-in_err-whole_head-in-2.result c.from_residual-in_err-whole_head-in-2.ensures.1 in
    rw (p.1, p.2, c.in_err-whole_head-in-2.ensures.1) (at_cut _ _ c.requires c.in_err-whole_head-in-2.ensures.0 (omega (arith, c.in-2.is)) (omega (arith, c.in-2.is)))

pub returns-in_ok-whole_head-in-1-clause-sort : goal.returns-in_ok-whole_head-in-1-clause-sort
returns-in_ok-whole_head-in-1-clause-sort c = at_open _ _ c.in_ok-whole_head-in-1.ensures.0 c.in-1.is

pub returns-in_ok-whole_head-in-2-clause-sort : goal.returns-in_ok-whole_head-in-2-clause-sort
returns-in_ok-whole_head-in-2-clause-sort c = at-token _ _ c.in_ok-whole_head-in-2.ensures.0 c.in-2.is

pub returns-in-3-clause-sort : goal.returns-in-3-clause-sort
returns-in-3-clause-sort c = at-close _ _ c.requires c.in-3.is

pub returns-in_default-clause-sort : goal.returns-in_default-clause-sort
returns-in_default-clause-sort c = let r = c.in_default.in_default-own.rest in at-unknown _ _ c.requires r.0.0.1 r.0.1 r.1
