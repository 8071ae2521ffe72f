-- `is_ascii` meets its contract: the highest byte decides.
use borrow.Author.Rules.{rules}
use mathlib.Core.Path.{◌≡◌}
use Rattle.std.specs.List.{fold}
use Rattle.std.specs.Prelude.{max}
use Rattle.utf8.proofs.CharacterLength.{ascii-highest}
use Rattle.utf8.proofs.is_ascii.Goals as goal

pub returns : goal.returns
returns c =
    let e : c.fold.result ≡ fold max 0 c.args.text.now = search rules in
    rw e (ascii-highest c.args.text.now)
