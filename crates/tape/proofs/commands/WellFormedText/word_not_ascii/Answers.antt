-- `word_not_ascii` meets its contract: where the kind is BareWord, `is_ascii` tells.
use mathlib.Core.Path.{ap}
use mathlib.Core.Bool.{not}
use Rattle.basics.specs.Bytes.{token_text}
use borrow.Author.Tests.{eq-eqb}
use Rattle.tape.proofs.commands.WellFormedText.word_not_ascii.Goals as goal

pub returns-then-t-eq-BARE_WORD : goal.returns-then-t-eq-BARE_WORD
unfolding token_text
returns-then-t-eq-BARE_WORD c = rw (eq-eqb _ _ c.if-t-eq-BARE_WORD.true) (ap not c.is_ascii.ensures)
