-- `word_at` meets its contract: a listed word is a value word by its place.
use native.Mathlib.Omega.{arith}
use mathlib.Core.Path.{◌∙◌}
use mathlib.Core.Bool.{true, false}
use Rattle.std.proofs.lemmas.Bool.Decides.{nat_tests}
use Rattle.keywords.proofs.Sorts.{placed_word, plain_word}
use Rattle.keywords.proofs.WalkLaws.{word-place}
use Rattle.keywords.proofs.word_at.Goals as goal

pub returns-in-None : goal.returns-in-None
returns-in-None c = plain_word c.args.word.now (word-place c.args.word.now _ _ c.capitals_of.ensures c.walk_from.ensures ∙ c.in-None.is)

pub returns-in-97-to-99 : goal.returns-in-97-to-99
returns-in-97-to-99 c =
    let h = word-place c.args.word.now _ _ c.capitals_of.ensures c.walk_from.ensures ∙ c.in-Some.is in
    placed_word c.args.word.now _ h true (grind (arith, nat_tests))

pub returns-in_default : goal.returns-in_default
returns-in_default c =
    let h = word-place c.args.word.now _ _ c.capitals_of.ensures c.walk_from.ensures ∙ c.in-Some.is in
    placed_word c.args.word.now _ h false (grind (arith, nat_tests))

pub returns-in_default-2 : goal.returns-in_default-2
returns-in_default-2 c =
    let h = word-place c.args.word.now _ _ c.capitals_of.ensures c.walk_from.ensures ∙ c.in-Some.is in
    placed_word c.args.word.now _ h false (grind (arith, nat_tests))
