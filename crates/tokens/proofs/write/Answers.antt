-- `write` meets its contract.
use native.Mathlib.Omega.{arith}
use Rattle.utf8.proofs.Trimming.{trimmed-le}
use Rattle.tokens.proofs.Runs.{put-acted}
use Rattle.tokens.proofs.write.Goals as goal

pub after_text-requires : goal.after_text-requires
after_text-requires c = (omega (arith, c.args.token.short, c.lead_blanks-blanks.ensures.1, c.requires.length), omega (arith, c.put_text-trimmed.ensures.left, trimmed-le c.args.token.text.now))

pub returns : goal.returns
returns c = put-acted c.args.token.text.now (omega (arith, c.args.token.short)) _ c.lead_blanks-blanks.ensures _ c.put_text-trimmed.ensures c.after_text.ensures
