-- `list_token` meets its contract.
use Prim.Native.Nat.{ℕ}
use native.Mathlib.Omega.{arith}
use mathlib.Core.Bool.{false}
use mathlib.Core.List.{List, [], ◌∷◌}
use mathlib.Core.Path.{◌≡◌, refl, ap, sym, ◌∙◌}
use lib.Dec.{eqb}
use borrow.Author.Tests.{ne_eqb}
use Rattle.tape.specs.Kinds.{Comma}
use Rattle.layout.specs.Arms.{comma, write_sign}
use Rattle.tokens.specs.TokenPromises.{emit_uncommented, seen_as}
use Rattle.tokens.proofs.Runs.{acted, as_acts, did-sign, did-sign-as, did-space, then}
use Rattle.expressions.specs.SharedArms.{closing, list_token, opening}
use Rattle.expressions.specs.declared.Brackets.{Brackets}
use Rattle.expressions.specs.declared.Brackets.TheVariants.{Round}
use Rattle.expressions.proofs.list_token.Goals as goal

opens : (b : Brackets) (text : List ℕ) → list_token b (seen_as (opening b).0 text) ≡ write_sign (opening b).1 ∷ []
opens Round text = refl
opens _ text = refl

closes : (b : Brackets) (text : List ℕ) → list_token b (seen_as (closing b).0 text) ≡ write_sign (closing b).1 ∷ []
closes Round text = refl
closes _ text = refl

others : (b : Brackets) (kind : ℕ) (text : List ℕ) → eqb kind Comma ≡ false → eqb kind (opening b).0 ≡ false → eqb kind (closing b).0 ≡ false
    → list_token b (seen_as kind text) ≡ emit_uncommented (seen_as kind text)
unfolding emit_uncommented
others b kind text e f g = rw (e, f, g)

pub returns-then-token-eq-COMMA : goal.returns-then-token-eq-COMMA
returns-then-token-eq-COMMA c = acted 4 _ (omega arith) (rw c.if-token-eq-COMMA.true) (then (did-sign comma c.write_sign.ensures) (as_acts (did-space c.write_space.ensures)))

pub returns-then-token-opening : goal.returns-then-token-opening
returns-then-token-opening c =
    let b = c.args.brackets in
    let e = c.opening-opening.ensures in
    acted 4 _ (omega arith)
    (ap (λ (k : ℕ). list_token b (seen_as k c.args.token.text.now)) (c.if-token-opening.true ∙ ap (λ (x : ℕ × ℕ). x.0) e) ∙ opens b c.args.token.text.now)
    (did-sign-as (opening b).1 (ap (λ (x : ℕ × ℕ). x.1) e) c.write_sign-then-token-opening.ensures)

pub returns-then-token-closing : goal.returns-then-token-closing
returns-then-token-closing c =
    let b = c.args.brackets in
    let e = c.closing-closing.ensures in
    acted 4 _ (omega arith)
    (ap (λ (k : ℕ). list_token b (seen_as k c.args.token.text.now)) (c.if-token-closing.true ∙ ap (λ (x : ℕ × ℕ). x.0) e) ∙ closes b c.args.token.text.now)
    (did-sign-as (closing b).1 (ap (λ (x : ℕ × ℕ). x.1) e) c.write_sign-then-token-closing.ensures)

pub returns : goal.returns
returns c =
    acted 4 _ (omega arith)
    (others c.args.brackets c.args.token.kind c.args.token.text.now (ne_eqb _ _ c.if-token-eq-COMMA.false)
    (ap (λ (x : ℕ × ℕ). eqb c.args.token.kind x.0) (sym c.opening-opening.ensures) ∙ ne_eqb _ _ c.if-token-opening.false)
    (ap (λ (x : ℕ × ℕ). eqb c.args.token.kind x.0) (sym c.closing-closing.ensures) ∙ ne_eqb _ _ c.if-token-closing.false))
    c.emit_uncommented.ensures
