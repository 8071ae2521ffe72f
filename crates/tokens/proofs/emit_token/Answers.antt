-- `emit_token` meets its contract.
use native.Mathlib.Omega.{arith}
use mathlib.Core.Path.{ap, sym, ◌∙◌}
use Rattle.layout.specs.Tokens.{emit_token}
use Rattle.tokens.specs.TokenPromises.{in_case, write_by}
use Rattle.tokens.specs.declared.Casing.{Casing}
use Rattle.tokens.proofs.Runs.{acted, no_acts, token-acts}
use Rattle.tokens.proofs.emit_token.Goals as goal

pub returns-then-token-eq-WHITESPACE : goal.returns-then-token-eq-WHITESPACE
unfolding emit_token
returns-then-token-eq-WHITESPACE c = acted 1 _ (omega arith) (rw c.if-token-eq-WHITESPACE.true) no_acts

pub returns : goal.returns
returns c =
    let t = c.args.token in
    acted 1 _ (omega arith) (token-acts t.kind t.text.now c.if-token-eq-WHITESPACE.false ∙ ap (λ (g : Casing). write_by (in_case g t.text.now)) (sym c.of.ensures)) c.write.ensures
