-- `layout_in` meets its contract.
use native.Mathlib.Omega.{arith}
use mathlib.Core.Path.{◌∙◌, sym}
use Rattle.std.proofs.lemmas.Result.{err_from_is_err_and}
use Rattle.formatter.proofs.Entries.{lays_out_lem, ready, refused-layout}
use Rattle.formatter.proofs.layout_in.Goals as goal

pub returns-in_err-check_call : goal.returns-in_err-check_call
returns-in_err-check_call c =
    let a = c.args in
    let p = err_from_is_err_and c.from_residual.result c.from_residual.ensures.1 in
    rw (p.1, p.2) (refused-layout a.width a.case a.text.now a.tape.now a.out.now (sym c.in_err-check_call.was ∙ c.check_call.ensures.0))

pub layout-requires : goal.layout-requires
layout-requires c =
    let a = c.args in
    rw c.config_of.ensures
    (ready a.width a.case a.text.now a.tape.now (sym c.in_ok-check_call.was ∙ c.check_call.ensures.0) c.check_call.ensures.1
    (λ fits. omega (arith, c.requires fits, c.check_call.auto.facts)))

pub returns : goal.returns
returns c =
    let a = c.args in
    lays_out_lem a.width a.case a.text.now a.tape.now (sym c.in_ok-check_call.was ∙ c.check_call.ensures.0) c.config_of.ensures c.layout.ensures
