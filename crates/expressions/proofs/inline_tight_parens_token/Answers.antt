-- `inline_tight_parens_token` meets its contract.
use Rattle.layout.specs.Routines.{inline_tight_parens_token}
use Rattle.tokens.proofs.Choices.{arm_as}
use Rattle.expressions.proofs.inline_tight_parens_token.Goals as goal

pub returns : goal.returns
unfolding inline_tight_parens_token
returns c = arm_as inline_tight_parens_token (cc (c.space_between_tight-wanted.ensures, c.after-left.ensures)) c.spaced_token.ensures
