-- `first_ill_formed` meets its contract: where the library's longest well-formed front ends, the table's does.
use mathlib.Core.Path.{sym, subst}
use Rattle.std.specs.Str.{IsValidUpTo}
use Rattle.utf8.proofs.Library.{ill}
use Rattle.utf8.proofs.first_ill_formed.Goals as goal

-- the library's front ends where a character would begin that is none,
-- and so does the table's
pub returns-in-Err : goal.returns-in-Err
returns-in-Err c = sym (ill _ _ (subst (IsValidUpTo c.args.text.now) (sym c.valid_up_to.ensures) c.in-Err.ensures.cases.1))
