-- `comma_list_token` meets its contract.
use native.Mathlib.Omega.{arith}
use borrow.Author.Tests.{ne_eqb}
use Rattle.layout.specs.Arms.{comma}
use Rattle.layout.specs.Routines.{comma_list_token}
use Rattle.layout.specs.Tokens.{emit_token}
use Rattle.tokens.specs.TokenPromises.{seen_as}
use Rattle.tokens.proofs.Choices.{or_else-acts, or_else-local}
use Rattle.tokens.proofs.Runs.{acted, as_acts, did-newline, did-sign, then}
use Rattle.expressions.proofs.comma_list_token.Goals as goal

pub returns-then-token-eq-COMMA : goal.returns-then-token-eq-COMMA
unfolding comma_list_token
returns-then-token-eq-COMMA c =
    record {
      acted = acted 4 _ (omega arith) (rw c.if-token-eq-COMMA.true) (then (did-sign comma c.write_sign.ensures) (as_acts (did-newline c.write_newline.ensures)));
      local = rw c.if-token-eq-COMMA.true c.flagged.ensures;
    }

pub returns : goal.returns
unfolding comma_list_token
returns c =
    let t = c.args.token in
    record {
      acted = acted 4 _ (omega arith) (rw (ne_eqb _ _ c.if-token-eq-COMMA.false) (or_else-acts c.args.local (seen_as t.kind t.text.now))) c.emit_other.ensures;
      local = rw (ne_eqb _ _ c.if-token-eq-COMMA.false) (or_else-local c.args.local (seen_as t.kind t.text.now) (emit_token (seen_as t.kind t.text.now)));
    }
