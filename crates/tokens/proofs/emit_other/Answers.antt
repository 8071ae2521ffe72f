-- `emit_other` meets its contract.
use native.Mathlib.Omega.{arith}
use mathlib.Core.Path.{◌∙◌, sym}
use Rattle.tokens.proofs.Choices.{other_trivia, other_token}
use Rattle.tokens.proofs.Runs.{acted, blank_acted}
use Rattle.tokens.proofs.emit_other.Goals as goal

pub returns-then-is_blank : goal.returns-then-is_blank
returns-then-is_blank c = acted 4 _ (omega arith) (other_trivia _ _ (sym c.is_trivia.ensures ∙ c.if-is_trivia.true)) (blank_acted c.args.token.kind (c.is_blank.ensures c.if-is_blank.true))

pub returns-then-is_trivia : goal.returns-then-is_trivia
returns-then-is_trivia c = acted 4 _ (omega arith) (other_trivia _ _ (sym c.is_trivia.ensures ∙ c.if-is_trivia.true)) c.emit_trivia.ensures

pub returns : goal.returns
returns c = acted 4 _ (omega arith) (other_token _ _ (sym c.is_trivia.ensures ∙ c.if-is_trivia.false)) c.emit_token.ensures
