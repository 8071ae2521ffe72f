-- `spaced_token` meets its contract.
use native.Mathlib.Omega.{arith}
use mathlib.Core.Path.{◌∙◌, refl, sym}
use Rattle.tokens.proofs.Choices.{other_done, trivia_done}
use Rattle.tokens.proofs.Runs.{acted}
use Rattle.tokens.proofs.spaced_token.Goals as goal

pub returns-then-is_trivia : goal.returns-then-is_trivia
returns-then-is_trivia c = trivia_done _ (sym c.is_trivia.ensures ∙ c.if-is_trivia.true) c.emit_trivia.ensures

pub returns : goal.returns
returns c = other_done _ (sym c.is_trivia.ensures ∙ c.if-is_trivia.false) (record { acted = acted 4 _ (omega arith) refl c.emit_spaced.ensures; local = refl })
