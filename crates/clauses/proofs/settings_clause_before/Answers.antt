-- `settings_clause_before` meets its contract.
use native.Mathlib.Omega.{arith}
use borrow.Author.Tests.{eq-eqb, ne_eqb}
use Rattle.tokens.proofs.Runs.{did-space, spaced}
use Rattle.layout.specs.Routines.{format_settings_clause}
use Rattle.clauses.proofs.settings_clause_before.Goals as goal

pub returns-then-kind-eq-SETTING_LIST : goal.returns-then-kind-eq-SETTING_LIST
unfolding format_settings_clause
returns-then-kind-eq-SETTING_LIST c local = spaced 2 _ (omega arith) (rw (eq-eqb _ _ c.if-kind-eq-SETTING_LIST.true)) c.begin_block.ensures

pub returns-else-kind-eq-SETTING_LIST : goal.returns-else-kind-eq-SETTING_LIST
unfolding format_settings_clause
returns-else-kind-eq-SETTING_LIST c local = spaced 2 _ (omega arith) (rw (ne_eqb _ _ c.if-kind-eq-SETTING_LIST.false)) (did-space c.write_space.ensures)
