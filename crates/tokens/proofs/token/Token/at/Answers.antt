-- `Token::at` meets its contract: a span's text is no longer than the text.
use native.Mathlib.Omega.{arith}
use mathlib.Core.Path.{ap}
use lib.ListN.{length}
use Rattle.context.proofs.Bytes.{token-length}
use Rattle.tokens.proofs.token.Token.at.Goals as goal

pub invariant_of-result : goal.invariant_of-result
invariant_of-result c =
    let p = c.requires in
    record { short = omega (arith, ap length c.token_text.ensures, token-length c.args.source.now c.args.head.start c.args.head.end p.ordered p.within, p.within, p.text_fits) }
