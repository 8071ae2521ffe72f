-- `is_cased` meets its contract: a keyword that is no value word.
use mathlib.Core.Path.{◌≡◌, refl, sym, ap, ◌∙◌}
use mathlib.Core.Bool.{false}
use Prim.Native.Nat.{ℕ}
use Rattle.keywords.specs.declared.Word.{Word}
use Rattle.keywords.specs.declared.Word.TheVariants.{Keyword}
use Rattle.keywords.proofs.Sorts.{is_other, other_keyword}
use Rattle.tokens.proofs.is_cased.Goals as goal

not_other : (s : Word) → ((i : ℕ) → s ≡ Keyword i → ⊥) → false ≡ is_other s
not_other (Keyword i) h = absurd (h i refl)
not_other _ h = refl

pub returns-in-Keyword : goal.returns-in-Keyword
returns-in-Keyword c = ap is_other (sym c.in-Keyword.is ∙ c.word_of.ensures) ∙ other_keyword c.args.text.now

pub returns-in_default : goal.returns-in_default
returns-in_default c = not_other _ c.in_default.not-Keyword ∙ ap is_other c.word_of.ensures ∙ other_keyword c.args.text.now
