-- `select_clause_token` meets its contract.
use native.Mathlib.Omega.{arith}
use borrow.Author.Tests.{ne_eqb}
use Rattle.tokens.proofs.Runs.{acted, as_acts, did-space, then}
use Rattle.layout.specs.Routines.{select_clause_token}
use Rattle.layout.specs.Tokens.{emit_other}
use Rattle.clauses.proofs.select_clause_token.Goals as goal

pub returns-then-token-eq-BARE_WORD : goal.returns-then-token-eq-BARE_WORD
unfolding select_clause_token
returns-then-token-eq-BARE_WORD c = acted 4 _ (omega arith) (rw c.if-token-eq-BARE_WORD.true) (then c.write_word.ensures (as_acts (did-space c.write_space.ensures)))

pub returns : goal.returns
unfolding select_clause_token emit_other
returns c = acted 4 _ (omega arith) (rw (ne_eqb _ _ c.if-token-eq-BARE_WORD.false)) c.emit_other.ensures
