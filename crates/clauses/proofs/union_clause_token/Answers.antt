-- `union_clause_token` meets its contract.
use native.Mathlib.Omega.{arith}
use borrow.Author.Tests.{ne_eqb}
use Rattle.layout.specs.Routines.{union_token}
use Rattle.tokens.specs.TokenPromises.{emit_uncommented}
use Rattle.tokens.proofs.Runs.{acted, as_acts, did-space, then}
use Rattle.clauses.proofs.union_clause_token.Goals as goal

pub returns-then-local : goal.returns-then-local
unfolding union_token
returns-then-local c = acted 4 _ (omega arith) (rw (c.if-token-eq-BARE_WORD.true, c.if-local.true)) (then (as_acts (did-space c.write_space.ensures)) c.write_word.ensures)

pub returns-else-local : goal.returns-else-local
unfolding union_token
returns-else-local c = acted 4 _ (omega arith) (rw (c.if-token-eq-BARE_WORD.true, c.if-local.false)) (then c.write_word-else-local.ensures (as_acts (did-space c.write_space-else-local.ensures)))

pub returns : goal.returns
unfolding union_token emit_uncommented
returns c = acted 4 _ (omega arith) (rw (ne_eqb _ _ c.if-token-eq-BARE_WORD.false)) c.emit_uncommented.ensures
