-- The tests of the masking rule's conditions and of its claim say what the rule says.
use Prim.Native.Nat.{ℕ, zero, suc, ◌+◌, ◌<◌}
use native.Mathlib.Omega.{arith}
use mathlib.Core.Path.{◌≡◌}
use mathlib.Core.Bool.{Bool, true, false, not, cond, ◌&&◌, ◌||◌}
use mathlib.Core.List.{List, [], ◌∷◌}
use lib.ListN.{length, get_or}
use lib.Dec.{T, eqb, eqb→eq}
use lib.Ieee.Fits.{and_i}
use Rattle.std.proofs.lemmas.List.{get_or_past}
use Rattle.std.proofs.lemmas.Bool.Decides.{nat_tests}
use Rattle.context.specs.Cells.{Text, Cell}
use Rattle.context.specs.Alike.{CellLike, Like}
use Rattle.tape.specs.declared.Head.{Head}
use Rattle.tape.specs.Tree.{Children, done, token, node, Tree, copied, EachToken, EachNode}
use Rattle.layout.specs.declared.Answer.{Answer}
use Rattle.layout.specs.Outcome.{Outcome, laid_out}
use Rattle.layout.specs.Masking.{SomeToken, here, after_token, within, after_node, OfCopied, EachReachedBelow, EachReachedCopy, quoted, Holds, StrictlyInside, Differ, EndsInWhiteSpace, MaskedForLayout, cells_after, SameLines, AlikeByLines}
use Rattle.layout.specs.MaskingTests.{Condition, same_length, no_newline, in_some_token, strictly_inside, in_quotes, not_copied, no_white_space_end, Asks, each_token, some_token, each_copied_below, each_reached_below, each_masked, holds_place, is_inside, is_solid, of_held, holds, reached_hold, holds_for_layout, same_answer, cell_like, cells_like, same_lines, alike_by_lines}

-- ── a test that says yes gives the condition

or_yes : {A : Type 0} (x y : Bool) → (T x → A) → (T y → A) → T (x || y) → A
or_yes x y f g t = grind arith

each-token : (P : Head → Type 0) (f : Head → Bool) → ((h : Head) → T (f h) → P h) → (c : Children) → T (each_token f c) → EachToken P c
each-token P f g done t = tt
each-token P f g (token h rest) t = (g h (grind arith), each-token P f g rest (grind arith))
each-token P f g (node h kids rest) t = (each-token P f g kids (grind arith), each-token P f g rest (grind arith))

some-token : (P : Head → Type 0) (f : Head → Bool) → ((h : Head) → T (f h) → P h) → (c : Children) → T (some_token f c) → SomeToken P c
some-token P f g done t = absurd t
some-token P f g (token h rest) t = or_yes (f h) (some_token f rest) (λ u. here (g h u)) (λ u. after_token (some-token P f g rest u)) t
some-token P f g (node h kids rest) t =
    or_yes (some_token f kids) (some_token f rest) (λ u. within (some-token P f g kids u)) (λ u. after_node (some-token P f g rest u)) t

each-copied : (P : Head → Type 0) (f : Head → Bool) → ((h : Head) → T (f h) → P h) → (c : Children) → T (each_copied_below f c)
    → EachNode (λ h kids. T (copied h.kind kids) → P h) c
each-copied P f g done t = tt
each-copied P f g (token h rest) t = each-copied P f g rest t
each-copied P f g (node h kids rest) t = (λ k. g h (grind arith), each-copied P f g kids (grind arith), each-copied P f g rest (grind arith))

of_copied : (t : Bool) (A B : Type 0) (x y : Bool) → (T x → A) → (T y → B) → T (cond t x y) → OfCopied t A B
of_copied true A B x y f g u = f u
of_copied false A B x y f g u = g u

module _ (P : Head → Type 0) (f : Head → Bool) (g : (h : Head) → T (f h) → P h) where
  each-reached : (c : Children) → T (each_reached_below f c) → EachReachedBelow P c
  each-reached done t = tt
  each-reached (token h rest) t = each-reached rest t
  each-reached (node h kids rest) t =
      (of_copied (copied h.kind kids) (P h) (EachReachedBelow P kids) (f h) (each_reached_below f kids) (g h) (each-reached kids) (grind arith), each-reached rest (grind arith))

  each-reached_copy : (t : Tree) → T (cond (copied t.head.kind t.kids) (f t.head) (each_reached_below f t.kids)) → EachReachedCopy P t
  each-reached_copy t =
      of_copied (copied t.head.kind t.kids) (P t.head) (EachReachedBelow P t.kids) (f t.head) (each_reached_below f t.kids) (g t.head) (each-reached t.kids)

module _ (a b : Text) where
  each-masked : (f : ℕ → Bool) (n : ℕ) → T (each_masked a b f n) → (p : ℕ) → p < n → Differ a b p → T (f p)
  each-masked f zero t p h d = absurd (omega arith)
  each-masked f (suc n) t p h d =
      let below : p < n → T (f p) = λ lt. each-masked f n (grind arith) p lt d in
      grind (arith, nat_tests)

  -- past the ends of both texts no place is masked
  at-masked : (f : ℕ → Bool) → T (each_masked a b f (length a + length b)) → (p : ℕ) → Differ a b p → T (f p)
  at-masked f t p d = each-masked f (length a + length b) t p (grind (arith, get_or_past)) d

  place-held : (p : ℕ) (h : Head) → T (holds_place p h) → Holds p h
  place-held p h t = grind (arith, nat_tests)

  -- of both texts, for each token that holds the place
  of_held_lem : (p : ℕ) (t : Tree) (f : Text → Head → Bool) (P : Text → Head → Type 0) → ((x : Text) (h : Head) → T (f x h) → P x h) → T (of_held a b f p t)
      → EachToken (λ h. Holds p h → P a h × P b h) t.kids
  of_held_lem p t f P g u =
      each-token (λ h. Holds p h → P a h × P b h) (λ h. not (holds_place p h) || (f a h && f b h))
      (λ h v k. (g a h (grind (arith, nat_tests)), g b h (grind (arith, nat_tests))))
      t.kids
      u

  is-inside : (p : ℕ) (x : Text) (h : Head) → T (is_inside x p h) → StrictlyInside x p h
  is-inside p x h u = grind (arith, nat_tests)

  is-solid : (x : Text) (h : Head) → T (is_solid x h) → EndsInWhiteSpace x h → ⊥
  is-solid x h u e = grind arith

  pub asked : (t : Tree) (c : Condition) → T (holds a b t c) → Asks c a b t
  asked t same_length u = eqb→eq (length a) (length b) u
  asked t no_newline u = λ p d. let v = at-masked (λ q. not (eqb (get_or a q 0) 10) && not (eqb (get_or b q 0) 10)) u p d in grind (arith, nat_tests)
  asked t in_some_token u = λ p d. some-token (Holds p) (holds_place p) (place-held p) t.kids (at-masked (λ q. some_token (holds_place q) t.kids) u p d)
  asked t strictly_inside u = λ p d. of_held_lem p t (λ x. is_inside x p) (λ x h. StrictlyInside x p h) (is-inside p) (at-masked (λ q. of_held a b (λ x. is_inside x q) q t) u p d)
  asked t in_quotes u = λ p d.
      each-token (λ h. Holds p h → T (quoted h)) (λ h. not (holds_place p h) || quoted h) (λ h v k. grind (arith, nat_tests)) t.kids
      (at-masked (λ q. each_token (λ h. not (holds_place q h) || quoted h) t.kids) u p d)
  asked t not_copied u = λ p d.
      let v =
      at-masked (λ q. (not (copied t.head.kind t.kids) || not (holds_place q t.head)) && each_copied_below (λ h. not (holds_place q h)) t.kids) u p d in (
        λ k i. grind (arith, nat_tests),
        each-copied (λ h. Holds p h → ⊥) (λ h. not (holds_place p h)) (λ h n i. grind (arith, nat_tests)) t.kids (grind arith),
      )
  asked t no_white_space_end u = λ p d. of_held_lem p t is_solid (λ x h. EndsInWhiteSpace x h → ⊥) is-solid (at-masked (λ q. of_held a b is_solid q t) u p d)

  pub asked_for_layout : (t : Tree) → T (holds_for_layout a b t) → MaskedForLayout a b t
  asked_for_layout t u =
      record {
        in_quotes = asked t in_quotes (grind arith);
        not_copied =
            λ p d. each-reached_copy (λ h. Holds p h → ⊥) (λ h. not (holds_place p h)) (λ h n i. grind (arith, nat_tests)) t (at-masked (λ q. reached_hold q t) (grind arith) p d);
        no_white_space_end = asked t no_white_space_end (grind arith);
      }

  -- ── where the claim holds its test says yes

  same_answer_lem : (x y : Answer) → x ≡ y → T (same_answer x y)
  same_answer_lem x y e = grind (arith, nat_tests)

  cell_like_lem : (x y : Cell) → CellLike a b x y → T (cell_like a b x y x.origin y.origin)
  cell_like_lem x y k = grind (arith, nat_tests)

  cells_like_lem : (xs ys : List Cell) → Like a b xs ys → T (cells_like a b xs ys)
  cells_like_lem [] [] k = tt
  cells_like_lem (x ∷ xs) (y ∷ ys) k = and_i (cell_like a b x y x.origin y.origin) (cells_like a b xs ys) (cell_like_lem x y k.0) (cells_like_lem xs ys k.1)
  cells_like_lem _ _ k = k

  same_lines_lem : (xs ys : List ℕ) → SameLines xs ys → (n : ℕ) → T (same_lines xs ys n)
  same_lines_lem xs ys k zero = tt
  same_lines_lem xs ys k (suc n) =
      let here = k n in
      let below = same_lines_lem xs ys k n in
      grind arith

  pub says : (x y : Outcome) (space : List ℕ) → AlikeByLines a b x y space → T (alike_by_lines a b x y space)
  says x y space k =
      let u = same_answer_lem (laid_out x space).answer (laid_out y space).answer k.alike.answers in
      let v = cells_like_lem (cells_after x space) (cells_after y space) k.alike.spaces in
      let w = same_lines_lem (laid_out x space).space (laid_out y space).space k.lines (length space) in
      grind arith
