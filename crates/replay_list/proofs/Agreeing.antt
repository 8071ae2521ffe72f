-- The space that a record expects, and from what the calls promise to the comparison.
use mathlib.Core.Path.{◌≡◌, refl, sym, ap, ◌∙◌}
use mathlib.Core.Bool.{Bool, true, false, ◌&&◌}
use mathlib.Core.List.{List, [], ◌∷◌, ◌++◌}
use Prim.Native.Nat.{ℕ, ◌-◌}
use native.Mathlib.Omega.{arith}
use lib.Dec.{eqb}
use lib.ListN.{length, replicate, length-append}
use borrow.Author.Tests.{eq-eqb}
use Rattle.std.specs.List.{list_all}
use Rattle.basics.proofs.Same.{same-equal}
use Rattle.keywords.specs.Words.{same}
use Rattle.layout.specs.declared.Answer.{Answer}
use Rattle.layout.specs.Outcome.{answers, Outcome, Result, laid_out}
use Rattle.replay_list.specs.Agreement.{calls_agree, no_space_number}

-- the layout, and 255 up to so many bytes
abbrev pub expected : List ℕ → ℕ → List ℕ
expected layout room = layout ++ replicate (room - length layout) 255

-- what is said of the bytes behind the layout is said by `same` of the whole space
all-255 : (xs : List ℕ) → list_all (λ b. eqb b 255) xs ≡ same xs (replicate (length xs) 255)
unfolding same
all-255 [] = refl
all-255 (x ∷ xs) = ap (λ t. eqb x 255 && t) (all-255 xs)

same-behind : (front xs ys : List ℕ) → same (front ++ xs) (front ++ ys) ≡ same xs ys
unfolding same
same-behind [] xs ys = refl
same-behind (x ∷ front) xs ys = rw (eq-eqb x x refl) (same-behind front xs ys)

pub compared_rest : (out layout rest : List ℕ) → out ≡ layout ++ rest → list_all (λ b. eqb b 255) rest ≡ same out (expected layout (length out))
compared_rest out layout rest e =
    let n : length out - length layout ≡ length rest = omega (arith, ap length e ∙ length-append layout rest) in
    all-255 rest
    ∙ sym (same-behind layout rest (replicate (length rest) 255))
    ∙ sym (rw n (ap (λ (l : List ℕ). same l (layout ++ replicate (length rest) 255)) e))

pub not_in_front : (out layout : List ℕ) → ((rest : List ℕ) → out ≡ layout ++ rest → ⊥) → false ≡ same out (expected layout (length out))
not_in_front out layout h = go (same out (expected layout (length out))) refl
  where
    go : (t : Bool) → same out (expected layout (length out)) ≡ t → false ≡ same out (expected layout (length out))
    go true e = absurd (h _ (same-equal out (expected layout (length out)) e))
    go false e = sym e

and-grouped : (a b c : Bool) → ((a && b) && c) ≡ (a && (b && c))
and-grouped true b c = refl
and-grouped false b c = refl

-- from what the calls promise to the comparison: m is what the call answered in no space, a and `after` what the one in the record's space answered
-- and left, n the number that is due in no space, and p, q and s are the tests
pub compares : (o : Outcome) (number value : ℕ) (layout : List ℕ) (room : ℕ) (m a : Answer) (left after : List ℕ) (n : ℕ) (p q s : Bool)
    → ◌≡◌ {A = Result} (record { answer = m; space = left }) (laid_out o [])
    → ◌≡◌ {A = Result} (record { answer = a; space = after }) (laid_out o (replicate room 255))
    → n ≡ no_space_number number value
    → p ≡ answers m n value
    → q ≡ answers a number value
    → s ≡ same after (expected layout (length after))
    → ((p && q) && s) ≡ calls_agree o number value layout room
unfolding calls_agree
compares o number value layout room m a left after n p q s hm hl hn hp hq hs =
    rw (and-grouped p q s, hp, hq, hs, hn, ← hm, ← hl)

-- the three ways through the comparison, one after the other: `start` is the record's space before its call
module _ (o : Outcome) (number value : ℕ) (layout : List ℕ) (room : ℕ) (m a : Answer) (left start after : List ℕ) (n : ℕ)
    (hb : start ≡ replicate room 255) (hm : ◌≡◌ {A = Result} (record { answer = m; space = left }) (laid_out o [])) (hl : ◌≡◌ {A = Result} (record { answer = a; space = after }) (laid_out o start)) (hn : n ≡ no_space_number number value) where
  by_parts : (p q s : Bool) → p ≡ answers m n value → q ≡ answers a number value → s ≡ same after (expected layout (length after)) → ((p && q) && s) ≡ calls_agree o number value layout room
  by_parts p q s = compares o number value layout room m a left after n p q s hm (hl ∙ ap (laid_out o) hb) hn

  module _ (p : Bool) (hp : p ≡ answers m n value) where
    pub differs_in_none : p ≡ false → false ≡ calls_agree o number value layout room
    differs_in_none t = rw t at (by_parts p _ _ hp refl refl)

    module _ (tp : p ≡ true) (q : Bool) (hq : q ≡ answers a number value) where
      pub differs_laid : q ≡ false → false ≡ calls_agree o number value layout room
      differs_laid t = rw (tp, t) at (by_parts p q _ hp hq refl)

      pub compares_space : q ≡ true → (s : Bool) → s ≡ same after (expected layout (length after)) → s ≡ calls_agree o number value layout room
      compares_space t s hs = rw (tp, t) at (by_parts p q s hp hq hs)
