-- `list_clause_token` meets its contract.
use native.Mathlib.Omega.{arith}
use borrow.Author.Tests.{ne_eqb}
use Rattle.layout.specs.Arms.{comma}
use Rattle.tokens.proofs.Runs.{acted, as_acts, did-newline, did-sign, did-space, then}
use Rattle.layout.specs.Routines.{list_clause_token}
use Rattle.layout.specs.Tokens.{emit_other}
use Rattle.clauses.proofs.list_clause_token.Goals as goal

pub returns-then-token-eq-BARE_WORD : goal.returns-then-token-eq-BARE_WORD
unfolding list_clause_token
returns-then-token-eq-BARE_WORD c = acted 4 _ (omega arith) (rw c.if-token-eq-BARE_WORD.true) (then c.write_word.ensures (as_acts (did-space c.write_space.ensures)))

pub returns-then-multi : goal.returns-then-multi
unfolding list_clause_token
returns-then-multi c = acted 4 _ (omega arith) (rw (c.if-token-eq-COMMA.true, c.if-multi.true)) (then (did-sign comma c.write_sign-a.ensures) (as_acts (did-newline c.write_newline.ensures)))

pub returns-else-multi : goal.returns-else-multi
unfolding list_clause_token
returns-else-multi c = acted 4 _ (omega arith) (rw (c.if-token-eq-COMMA.true, c.if-multi.false)) (then (did-sign comma c.write_sign-a.ensures) (as_acts (did-space c.write_space-else-multi.ensures)))

pub returns : goal.returns
unfolding list_clause_token emit_other
returns c = acted 4 _ (omega arith) (rw (ne_eqb _ _ c.if-token-eq-BARE_WORD.false, ne_eqb _ _ c.if-token-eq-COMMA.false)) c.emit_other.ensures
