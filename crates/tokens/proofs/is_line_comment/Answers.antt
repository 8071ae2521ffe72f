-- `is_line_comment` meets its contract.
use Prim.Native.Nat.{ℕ}
use mathlib.Core.Bool.{and-false, and-true}
use mathlib.Core.Path.{◌≡◌, refl, ◌∙◌}
use mathlib.Core.List.{List, [], ◌∷◌}
use lib.Dec.{eqb}
use native.Mathlib.Omega.{arith}
use Rattle.std.proofs.lemmas.Bool.Decides.{nat_tests}
use Rattle.std.specs.List.{starts_with}
use Rattle.layout.specs.Tokens.{is_line_comment}
use Rattle.tokens.proofs.is_line_comment.Goals as goal

turned : (a b : ℕ) → eqb a b ≡ eqb b a
turned a b = grind (arith, nat_tests)

-- the library asks whether the two hyphens are the text's first bytes, and the definition whether these are hyphens;
-- of a text of fewer bytes both say no
two_hyphens : (b : List ℕ) → starts_with eqb b (45 ∷ 45 ∷ []) ≡ is_line_comment b
unfolding is_line_comment
two_hyphens [] = refl
two_hyphens (x ∷ []) = and-false _
two_hyphens (x ∷ y ∷ b) = rw (turned 45 x, turned 45 y, and-true (eqb y 45))

pub returns : goal.returns
returns c = c.starts_with.ensures.value ∙ two_hyphens c.args.text.now
