-- `trimmed_length` meets its contract.
use native.Mathlib.Omega.{arith}
use mathlib.Core.Path.{sym}
use Rattle.utf8.proofs.LastWhiteSpace.{solid_before}
use Rattle.utf8.proofs.Trimming.{trimmed-whole}
use Rattle.utf8.proofs.trimmed_length.Goals as goal

pub returns-in-Some-33-to-127 : goal.returns-in-Some-33-to-127
returns-in-Some-33-to-127 c =
    let last = c.in-Some-33-to-127.ensures.item.3 in
    let e = last.1 0 in
    sym (trimmed-whole c.args.text.now (solid_before c.args.text.now last.0 (omega arith) (omega arith)))
