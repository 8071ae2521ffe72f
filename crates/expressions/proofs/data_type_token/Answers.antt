-- `data_type_token` meets its contract.
use Prim.Native.Nat.{ℕ}
use native.Mathlib.Omega.{arith}
use mathlib.Core.Bool.{true}
use mathlib.Core.List.{List}
use mathlib.Core.Logic.{inl, inr}
use mathlib.Core.Path.{◌≡◌, ◌∙◌, sym}
use lib.Dec.{eqb}
use borrow.Author.Tests.{ne_eqb}
use Rattle.tape.specs.Kinds.{Whitespace}
use Rattle.layout.specs.Arms.{comma, opening_round_bracket, closing_round_bracket}
use Rattle.layout.specs.Routines.{data_type_token}
use Rattle.tokens.specs.TokenPromises.{emit_trivia, is_trivia, seen_as}
use Rattle.tokens.proofs.Choices.{trivia_is, trivia_not}
use Rattle.tokens.proofs.Runs.{acted, as_acts, did-sign, did-space, then}
use Rattle.expressions.proofs.data_type_token.Goals as goal

trivia_acts : (kind : ℕ) (text : List ℕ) → is_trivia kind ≡ true → data_type_token (seen_as kind text) ≡ emit_trivia (eqb kind Whitespace) text
unfolding data_type_token
trivia_acts kind text e = elim (trivia_is kind e) [ inl q ↦ rw q | inr q ↦ rw q ]

pub returns-then-is_trivia : goal.returns-then-is_trivia
returns-then-is_trivia c = acted 4 _ (omega arith) (trivia_acts _ _ (sym c.is_trivia.ensures ∙ c.if-is_trivia.true)) c.emit_trivia.ensures

pub returns-then-token-eq-COMMA : goal.returns-then-token-eq-COMMA
unfolding data_type_token
returns-then-token-eq-COMMA c = acted 4 _ (omega arith) (rw c.if-token-eq-COMMA.true) (then (did-sign comma c.write_sign.ensures) (as_acts (did-space c.write_space.ensures)))

pub returns-then-token-eq-OPENING_ROUND_BRACKET : goal.returns-then-token-eq-OPENING_ROUND_BRACKET
unfolding data_type_token
returns-then-token-eq-OPENING_ROUND_BRACKET c = acted 4 _ (omega arith) (rw c.if-token-eq-OPENING_ROUND_BRACKET.true) (did-sign opening_round_bracket c.write_sign-then-token-eq-OPENING_ROUND_BRACKET.ensures)

pub returns-then-token-eq-CLOSING_ROUND_BRACKET : goal.returns-then-token-eq-CLOSING_ROUND_BRACKET
unfolding data_type_token
returns-then-token-eq-CLOSING_ROUND_BRACKET c = acted 4 _ (omega arith) (rw c.if-token-eq-CLOSING_ROUND_BRACKET.true) (did-sign closing_round_bracket c.write_sign-then-token-eq-CLOSING_ROUND_BRACKET.ensures)

pub returns : goal.returns
unfolding data_type_token
returns c =
    let n = trivia_not c.args.token.kind (sym c.is_trivia.ensures ∙ c.if-is_trivia.false) in
    acted 4 _ (omega arith) (rw (n.0, n.1, ne_eqb _ _ c.if-token-eq-COMMA.false, ne_eqb _ _ c.if-token-eq-OPENING_ROUND_BRACKET.false, ne_eqb _ _ c.if-token-eq-CLOSING_ROUND_BRACKET.false)) c.write_text.ensures
