-- `layout_map_in` meets its contract.
use native.Mathlib.Omega.{arith}
use mathlib.Core.Path.{◌∙◌, sym}
use Rattle.std.proofs.lemmas.Result.{err_from_is_err_and}
use Rattle.formatter.proofs.Entries.{maps-out, ready, refused-map}
use Rattle.formatter.proofs.layout_map_in.Goals as goal

pub returns-in_err-check_call : goal.returns-in_err-check_call
returns-in_err-check_call c =
    let a = c.args in
    let p = err_from_is_err_and c.from_residual.result c.from_residual.ensures.1 in
    rw (p.1, p.2) (refused-map a.width a.case a.text.now a.tape.now a.out.now a.map.now (sym c.in_err-check_call.was ∙ c.check_call.ensures.0))

pub layout_map-requires : goal.layout_map-requires
layout_map-requires c =
    let a = c.args in
    let p = c.requires in (
      rw c.config_of.ensures
          (ready a.width a.case a.text.now a.tape.now (sym c.in_ok-check_call.was ∙ c.check_call.ensures.0) c.check_call.ensures.1
          (λ fits. omega (arith, p.0 fits, c.check_call.auto.facts))),
      p.1,
    )

pub returns : goal.returns
returns c =
    let a = c.args in
    maps-out a.width a.case a.text.now a.tape.now (sym c.in_ok-check_call.was ∙ c.check_call.ensures.0) c.config_of.ensures c.layout_map.ensures
