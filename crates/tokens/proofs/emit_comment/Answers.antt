-- `emit_comment` meets its contract.
use Rattle.tokens.proofs.Runs.{did-comment}
use Rattle.tokens.proofs.emit_comment.Goals as goal

pub returns : goal.returns
returns c = did-comment c.line_or_space-a.ensures c.write_token-b.ensures c.is_line_comment.ensures c.newline_if.ensures
