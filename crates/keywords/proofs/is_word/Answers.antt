-- `is_word` meets its contract: where the lengths agree the bytes decide.
use Rattle.std.proofs.Common.{rules, tests}
use mathlib.Core.Path.{◌≡◌, sym, ◌∙◌}
use mathlib.Core.Bool.{Bool, true, false}
use mathlib.Core.List.{List}
use Prim.Native.Nat.{ℕ, ◌<◌}
use borrow.Author.Tests.{ne_eqb}
use lib.ListN.{length, length-map}
use Rattle.std.specs.Prelude.{MatchBool}
use Rattle.std.specs.List.{AllWithin, HoldsAt, zip}
use Rattle.std.proofs.lemmas.Iterator.{YieldsList-from_slice, YieldsList-from_zip, cases_from_all}
use Rattle.basics.specs.Case.{to_uppercase}
use Rattle.basics.proofs.Same.{same-lengths}
use Rattle.keywords.specs.Words.{capitals, same}
use Rattle.keywords.proofs.Capitals.{Alike, Unlike, all-alike, one_unlike}
use Rattle.keywords.proofs.is_word.Goals as goal

decided : (w caps : List ℕ) (r : Bool) → length w ≡ length caps → MatchBool r (AllWithin Alike (zip w caps) 0 (length (zip w caps))) ((k : ℕ) × (k < length (zip w caps)) × HoldsAt Unlike (zip w caps) k)
    → r ≡ same (capitals w) caps
decided w caps true e h = sym (all-alike w caps e h)
decided w caps false e h = sym (one_unlike w caps h.0 h.1 h.2)

pub returns-then-word-caps : goal.returns-then-word-caps
returns-then-word-caps c =
    decided _ _ _ c.if-word-caps.true (cases_from_all c.all.new.self _ _ Alike Unlike c.all.ensures.ran (YieldsList-from_zip (YieldsList-from_slice c.args.word.now cc) (YieldsList-from_slice c.args.caps.now cc)) (λ x q k. search (rules, tests)) (λ x q k. search (rules, tests)))

pub returns-else-word-caps : goal.returns-else-word-caps
returns-else-word-caps c =
    let l = length-map c.args.word.now to_uppercase in
    ne_eqb _ _ c.if-word-caps.false ∙ sym (same-lengths (capitals c.args.word.now) c.args.caps.now (λ q. c.if-word-caps.false (sym l ∙ q)))
