-- `join_clause_token` meets its contract.
use native.Mathlib.Omega.{arith}
use mathlib.Core.List.{[], ◌∷◌}
use mathlib.Core.Path.{refl}
use borrow.Author.Tests.{ne_eqb}
use Rattle.layout.specs.Arms.{write_keyword}
use Rattle.layout.specs.Routines.{join_clause_token, simple_clause_token}
use Rattle.tokens.proofs.Choices.{arm_as, as_spaced, spaced-as}
use Rattle.tokens.proofs.Runs.{acted, as_acts, then}
use Rattle.clauses.proofs.join_clause_token.Goals as goal

pub returns-then-token-eq-BARE_WORD : goal.returns-then-token-eq-BARE_WORD
unfolding join_clause_token
returns-then-token-eq-BARE_WORD c =
    record {
      acted =
          acted 4 _ (omega arith) (rw c.if-token-eq-BARE_WORD.true (spaced-as c.args.local.flag c.args.local.flag (write_keyword ∷ []) refl))
          (then (as_acts (as_spaced c.space_if-a.ensures)) c.write_word.ensures);
      local = rw c.if-token-eq-BARE_WORD.true c.flagged.ensures;
    }

pub returns : goal.returns
unfolding join_clause_token simple_clause_token
returns c = arm_as join_clause_token (rw (ne_eqb _ _ c.if-token-eq-BARE_WORD.false)) c.simple_clause_token.ensures
