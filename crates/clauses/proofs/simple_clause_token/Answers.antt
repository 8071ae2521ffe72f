-- `simple_clause_token` meets its contract.
use mathlib.Core.Bool.{Bool, not, ◌&&◌}
use mathlib.Core.Path.{◌≡◌, ◌∙◌, ap, sym}
use Rattle.layout.specs.Tokens.{no_space_before}
use Rattle.layout.specs.Routines.{flagged, simple_clause_token}
use Rattle.tokens.specs.TokenPromises.{seen_as}
use Rattle.tokens.proofs.Choices.{arm_as}
use Rattle.clauses.proofs.simple_clause_token.Goals.{then-local, else-local}
use Rattle.clauses.proofs.simple_clause_token.Goals as goal

pub returns : goal.returns
unfolding simple_clause_token
returns c =
    let l = c.args.local in
    let t = seen_as c.args.token.kind c.args.token.text.now in
    let wanted : (l.flag && not (no_space_before t.kind)) ≡ c.if-local.wanted =
    elim c.if-local.branch [
      | then-local w ↦ rw w.if-local.true (sym (w.wanted-is ∙ ap not w.no_space_before.ensures))
      | else-local w ↦ rw w.if-local.false (sym (w.wanted-is ∙ w.if-local.false))
    ] in
    let left = c.flagged-left.ensures ∙ ap (λ (b : Bool). flagged (not b)) c.no_space_after.ensures in
    arm_as simple_clause_token (cc (wanted, left)) c.spaced_token.ensures
