-- `context::Position::after` meets its contract.
use mathlib.Core.Path.{refl, ap, ◌∙◌}
use Prim.Native.Nat.{◌+◌}
use native.Mathlib.Omega.{arith}
use Rattle.utf8.specs.Trimming.{trimmed_after}
use Rattle.utf8.proofs.Trimming.{trimmed-le}
use Rattle.context.proofs.Writes.{advanced-blanks}
use Rattle.context.proofs.Position.after.Goals as goal

pub after_text-requires : goal.after_text-requires
after_text-requires c = (omega arith, omega (arith, trimmed-le c.args.text.now))

pub returns : goal.returns
returns c =
    let a = c.args in
    c.after_text.ensures
    ∙ advanced-blanks a.blanks a.text.now a.self _ _ refl (ap (trimmed_after (a.self.length + a.blanks) a.self.trimmed) c.trimmed_length.ensures)
