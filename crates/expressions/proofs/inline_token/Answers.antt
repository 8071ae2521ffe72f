-- `inline_token` meets its contract.
use Rattle.layout.specs.Routines.{inline_token}
use Rattle.tokens.proofs.Choices.{arm_as}
use Rattle.expressions.proofs.inline_token.Goals as goal

pub returns : goal.returns
unfolding inline_token
returns c = arm_as inline_token (cc (c.space_between-wanted.ensures, c.after-left.ensures)) c.spaced_token.ensures
