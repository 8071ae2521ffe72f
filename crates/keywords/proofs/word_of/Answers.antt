-- `word_of` meets its contract: a word without a candidate is not listed.
use mathlib.Core.Path.{sym, ◌∙◌}
use Rattle.keywords.proofs.Lookup.{candidate-stands, no_word}
use Rattle.keywords.proofs.Sorts.{plain_word}
use Rattle.keywords.proofs.word_of.Goals as goal

pub word_at-requires : goal.word_at-requires
word_at-requires c =
    candidate-stands c.args.word.now c.in-Some.entry (sym c.candidate.ensures ∙ c.in-Some.is)

pub returns-in-None : goal.returns-in-None
returns-in-None c = plain_word c.args.word.now (no_word c.args.word.now (sym c.candidate.ensures ∙ c.in-None.is))
