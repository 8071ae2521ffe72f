-- `format_error_verbatim` meets its contract.
use native.Mathlib.Omega.{arith}
use mathlib.Core.Path.{ap}
use lib.ListN.{length}
use Rattle.context.proofs.Bytes.{token-length}
use Rattle.tokens.proofs.Runs.{copied_none, copied-raw}
use Rattle.tokens.proofs.format_error_verbatim.Goals as goal

pub returns-then-node : goal.returns-then-node
returns-then-node c config = copied_none c.args.node c.if-node.true

pub write_raw-requires-clause-text_len_bound : goal.write_raw-requires-clause-text_len_bound
write_raw-requires-clause-text_len_bound c =
    let n = c.args.node in
    let e = c.requires.1 c.if-node.false in
    omega (arith, ap length c.token_text.ensures, token-length c.args.source.now n.start n.end c.if-node.false e, e, c.requires.0)

pub returns : goal.returns
returns c config = copied-raw c.args.node _ c.token_text.ensures c.if-node.false c.write_raw.ensures
