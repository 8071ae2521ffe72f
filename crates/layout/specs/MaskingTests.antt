-- What the masking rule asks and says, as tests that can be computed. That they are the rule's own words is proofs/MaskingTests.
use Rattle.std.specs.Prelude.{ℕ, zero, suc, ◌+◌, ◌≡◌, Bool, true, false, not, cond, ◌&&◌, ◌||◌, List, [], ◌∷◌, length, get_or, T, eqb, leb, ltb}
use Rattle.context.specs.Cells.{Text, Origin, made, from, Cell}
use Rattle.tape.specs.declared.Head.{Head}
use Rattle.tape.specs.Tree.{Children, done, token, node, Tree, copied, EachToken}
use Rattle.layout.specs.declared.Answer.{Answer}
use Rattle.layout.specs.Outcome.{Outcome, answers, laid_out}
use Rattle.layout.specs.Masking.{SomeToken, EachCopied, quoted, Holds, characters_of, first_length, last_length, last_is_white, StrictlyInside, Differ, EndsInWhiteSpace, cells_after}

-- ── the conditions, but for what 4, 15 and 16 let pass

pub data Condition : Type 0 where
  same_length no_newline in_some_token strictly_inside in_quotes not_copied no_white_space_end : Condition

-- what each asks, as in `Masked` and `MaskedPair`
abbrev pub Asks : Condition → Text → Text → Tree → Type 0
Asks same_length a b t = length a ≡ length b
Asks no_newline a b t = (p : ℕ) → Differ a b p → (get_or a p 0 ≡ 10 → ⊥) × (get_or b p 0 ≡ 10 → ⊥)
Asks in_some_token a b t = (p : ℕ) → Differ a b p → SomeToken (Holds p) t.kids
Asks strictly_inside a b t = (p : ℕ) → Differ a b p → EachToken (λ h. Holds p h → StrictlyInside a p h × StrictlyInside b p h) t.kids
Asks in_quotes a b t = (p : ℕ) → Differ a b p → EachToken (λ h. Holds p h → T (quoted h)) t.kids
Asks not_copied a b t = (p : ℕ) → Differ a b p → EachCopied (λ h. Holds p h → ⊥) t
Asks no_white_space_end a b t = (p : ℕ) → Differ a b p → EachToken (λ h. Holds p h → (EndsInWhiteSpace a h → ⊥) × (EndsInWhiteSpace b h → ⊥)) t.kids

-- ── their tests

abbrev pub each_token : (Head → Bool) → Children → Bool
each_token f done = true
each_token f (token h rest) = f h && each_token f rest
each_token f (node h kids rest) = each_token f kids && each_token f rest

abbrev pub some_token : (Head → Bool) → Children → Bool
some_token f done = false
some_token f (token h rest) = f h || some_token f rest
some_token f (node h kids rest) = some_token f kids || some_token f rest

abbrev pub each_copied_below : (Head → Bool) → Children → Bool
each_copied_below f done = true
each_copied_below f (token h rest) = each_copied_below f rest
each_copied_below f (node h kids rest) = (not (copied h.kind kids) || f h) && (each_copied_below f kids && each_copied_below f rest)

-- of each node that the layout copies, among the children and below
abbrev pub each_reached_below : (Head → Bool) → Children → Bool
each_reached_below f done = true
each_reached_below f (token h rest) = each_reached_below f rest
each_reached_below f (node h kids rest) = cond (copied h.kind kids) (f h) (each_reached_below f kids) && each_reached_below f rest

-- f holds of each place below n where the texts differ
abbrev pub each_masked : Text → Text → (ℕ → Bool) → ℕ → Bool
each_masked a b f zero = true
each_masked a b f (suc n) = (eqb (get_or a n 0) (get_or b n 0) || f n) && each_masked a b f n

abbrev pub holds_place : ℕ → Head → Bool
holds_place p h = leb h.start p && ltb p h.end

abbrev pub is_inside : Text → ℕ → Head → Bool
is_inside t p h = leb (h.start + first_length (characters_of t h)) p && ltb (p + last_length (characters_of t h)) h.end

abbrev pub is_solid : Text → Head → Bool
is_solid t h = not (last_is_white (characters_of t h))

-- f holds of each token that holds the place, for both texts
abbrev pub of_held : Text → Text → (Text → Head → Bool) → ℕ → Tree → Bool
of_held a b f p t = each_token (λ h. not (holds_place p h) || (f a h && f b h)) t.kids

abbrev pub holds : Text → Text → Tree → Condition → Bool
holds a b t same_length = eqb (length a) (length b)
holds a b t no_newline = each_masked a b (λ p. not (eqb (get_or a p 0) 10) && not (eqb (get_or b p 0) 10)) (length a + length b)
holds a b t in_some_token = each_masked a b (λ p. some_token (holds_place p) t.kids) (length a + length b)
holds a b t strictly_inside = each_masked a b (λ p. of_held a b (λ x. is_inside x p) p t) (length a + length b)
holds a b t in_quotes = each_masked a b (λ p. each_token (λ h. not (holds_place p h) || quoted h) t.kids) (length a + length b)
holds a b t not_copied =
    each_masked a b
    (λ p. (not (copied t.head.kind t.kids) || not (holds_place p t.head)) && each_copied_below (λ h. not (holds_place p h)) t.kids)
    (length a + length b)
holds a b t no_white_space_end = each_masked a b (λ p. of_held a b is_solid p t) (length a + length b)

-- what the layout needs, as in `MaskedForLayout`
abbrev pub reached_hold : ℕ → Tree → Bool
reached_hold p t = cond (copied t.head.kind t.kids) (not (holds_place p t.head)) (each_reached_below (λ h. not (holds_place p h)) t.kids)

abbrev pub holds_for_layout : Text → Text → Tree → Bool
holds_for_layout a b t =
    holds a b t in_quotes && (each_masked a b (λ p. reached_hold p t) (length a + length b) && holds a b t no_white_space_end)

-- ── the claim's test

abbrev pub same_answer : Answer → Answer → Bool
same_answer x y = answers x y.number y.value

abbrev pub cell_like : Text → Text → Cell → Cell → Origin → Origin → Bool
cell_like a b x y made made = eqb x.byte y.byte
cell_like a b x y made (from q) = false
cell_like a b x y (from p) made = false
cell_like a b x y (from p) (from q) = eqb p q && (not (eqb (get_or a p 0) (get_or b p 0)) || eqb x.byte y.byte)

abbrev pub cells_like : Text → Text → List Cell → List Cell → Bool
cells_like a b [] [] = true
cells_like a b [] (y ∷ ys) = false
cells_like a b (x ∷ xs) [] = false
cells_like a b (x ∷ xs) (y ∷ ys) = cell_like a b x y x.origin y.origin && cells_like a b xs ys

abbrev pub both_or_neither : Bool → Bool → Bool
both_or_neither true y = y
both_or_neither false y = not y

-- newlines stand at the same of the first n places
abbrev pub same_lines : List ℕ → List ℕ → ℕ → Bool
same_lines xs ys zero = true
same_lines xs ys (suc n) = both_or_neither (eqb (get_or xs n 0) 10) (eqb (get_or ys n 0) 10) && same_lines xs ys n

abbrev pub alike_by_lines : Text → Text → Outcome → Outcome → List ℕ → Bool
alike_by_lines a b x y space =
    same_answer (laid_out x space).answer (laid_out y space).answer
    && (cells_like a b (cells_after x space) (cells_after y space) && same_lines (laid_out x space).space (laid_out y space).space (length space))
