-- The masking rule's conditions are met by a pair of texts that differ, which is put through the rule; and each is needed.
use Prim.Native.Nat.{ℕ}
use native.Mathlib.Omega.{arith}
use mathlib.Core.Path.{◌≡◌, refl, subst}
use mathlib.Core.Bool.{Bool, false, not, ◌&&◌}
use mathlib.Core.List.{List, [], ◌∷◌}
use lib.ListN.{length}
use lib.Dec.{T, T_not, eqb}
use lib.Ieee.Fits.{and_l, and_r}
use borrow.Author.Tests.{ne_eqb}
use Rattle.keywords.specs.Words.{same}
use Rattle.keywords.proofs.Places.{same_self}
use Rattle.context.specs.Cells.{Text}
use Rattle.tape.specs.Tree.{Tree}
use Rattle.tape.specs.Tape.{Read, refused, got, read_tree}
use Rattle.tape.specs.Call.{read_call}
use Rattle.layout.specs.Layout.{original}
use Rattle.layout.specs.Outcome.{outcome}
use Rattle.layout.specs.Masking.{Differ, Masked, MaskedForLayout, TextsUnder, MaskedPair, MaskedPairForLayout}
use Rattle.layout.specs.MapCall.{MapsAlikeByLines}
use Rattle.layout.specs.MaskingTests.{Condition, same_length, no_newline, in_some_token, strictly_inside, in_quotes, not_copied, no_white_space_end, Asks, holds, holds_for_layout}
use Rattle.layout.specs.MaskingNeeds.{Pair, space, map_space, Claim, claimed, map_of, MapClaim, map_claimed, conditions, of_tree, all_hold, both_pass, meets, masked, meets_for_layout, masked_for_layout, Broken, number, needed, all_needed, pairs, map_pairs, Needed, EachNeeded}
use Rattle.layout.proofs.TwoCalls.{demand_3}
use Rattle.layout.proofs.MapCalls.{maps-masked}
use Rattle.layout.proofs.MaskingTests.{asked, asked_for_layout, says}
use Rattle.layout.proofs.Tables.{tables}

-- ── from the tests to the rule's words

module _ (left_out : Condition → Bool) (a b : Text) (t : Tree) where
  held : T (all_hold left_out a b conditions t) → (c : Condition) → left_out c ≡ false → T (holds a b t c)
  held u same_length e = grind arith
  held u _ e = grind arith

  all_asked : T (all_hold left_out a b conditions t) → (c : Condition) → left_out c ≡ false → Asks c a b t
  all_asked u c e = asked a b t c (held u c e)

-- ── the pair that meets all conditions

-- what the tree that was read gives, whichever it is
of_some : {A : Type 0} (f : Tree → Bool) (r : Read Tree) → T (of_tree f r) → ((t : Tree) → T (f t) → A) → A
of_some f (refused y p) v g = absurd v
of_some f (got t p) v g = g t v

module _ (x : Pair) where
  abbrev call : Read Tree
  call = read_call 4 1 x.first x.tape

  -- a test of the tree gives what is asked of the texts
  texts-under : (Rule : Text → Text → Tree → Type 0) (f : Tree → Bool) → ((t : Tree) → T (f t) → (length x.first ≡ length x.second) × Rule x.first x.second t)
      → T (both_pass x && of_tree f call) → TextsUnder Rule 4 1 x.first x.second x.tape
  texts-under Rule f g w =
      let u : T (of_tree f call) = grind arith in
      record {
        same_length = of_some f call u (λ t v. (g t v).0);
        pass_a = grind arith;
        pass_b = grind arith;
        rule = λ t p e. (g t (rw e at u)).1;
      }

  meets-pair : T (meets x) → MaskedPair 4 1 x.first x.second x.tape
  meets-pair =
      texts-under Masked (all_hold (λ c. false) x.first x.second conditions) (λ t v.
      let asks : (c : Condition) → Asks c x.first x.second t = λ c. all_asked (λ d. false) x.first x.second t v c refl in (
        asks same_length,
        record {
          no_newline = asks no_newline;
          in_some_token = asks in_some_token;
          strictly_inside = asks strictly_inside;
          in_quotes = asks in_quotes;
          not_copied = asks not_copied;
          no_white_space_end = asks no_white_space_end;
        },
      ))

  meets-pair_for_layout : T (meets_for_layout x) → MaskedPairForLayout 4 1 x.first x.second x.tape
  meets-pair_for_layout =
      texts-under MaskedForLayout (λ t. holds x.first x.second t same_length && holds_for_layout x.first x.second t)
      (λ t v. (asked x.first x.second t same_length (grind arith), asked_for_layout x.first x.second t (grind arith)))

pub met : MaskedPair 4 1 masked.first masked.second masked.tape
met = meets-pair masked (and_l (meets masked) (meets_for_layout masked_for_layout) tables.met)

-- the layout needs less, which another pair meets
pub met_for_layout : MaskedPairForLayout 4 1 masked_for_layout.first masked_for_layout.second masked_for_layout.tape
met_for_layout = meets-pair_for_layout masked_for_layout (and_r (meets masked) (meets_for_layout masked_for_layout) tables.met)

-- the two calls on it
pub worked : Claim masked
worked = demand_3 4 1 masked.first masked.second masked.tape met space

-- and the two calls with a map
pub worked_map : MapsAlikeByLines 4 1 masked.first masked.second masked.tape space map_space
worked_map = maps-masked 4 1 masked.first masked.second masked.tape met space map_space

-- its texts differ
pub masked-differs : Differ masked.first masked.second 8
unfolding masked
masked-differs e = omega arith

-- ── each condition is needed

of_three : (x y z : Bool) → T (x && (y && z)) → T x × T y × T z
of_three x y z t = grind arith

-- of a claim that its test says
module _ (claim : Pair → Bool) (Claimed : Pair → Type 0) (said : (x : Pair) → Claimed x → T (claim x)) where
  is-needed : (x : Broken) → T (needed claim x) → Needed Claimed x
  is-needed x u = go (read_tree (length x.pair.first) x.pair.tape) refl w.0
    where
      f : Tree → Bool
      f = all_hold (λ c. eqb (number c) (number x.without)) x.pair.first x.pair.second conditions

      w : T (of_tree f (read_tree (length x.pair.first) x.pair.tape)) × T (both_pass x.pair) × T (not (claim x.pair))
      w = of_three (of_tree f (read_tree (length x.pair.first) x.pair.tape)) (both_pass x.pair) (not (claim x.pair)) u

      go : (r : Read Tree) → read_tree (length x.pair.first) x.pair.tape ≡ r → T (of_tree f r) → Needed Claimed x
      go (refused y p) e v = absurd v
      go (got t p) e v =
          record {
            tree = t;
            place = p;
            read = e;
            passes = w.1;
            others =
                λ c ne.
                all_asked (λ d. eqb (number d) (number x.without)) x.pair.first x.pair.second t v c (ne_eqb (number c) (number x.without) ne);
            broken = λ k. T_not (claim x.pair) w.2 (said x.pair k);
          }

  are_needed : (xs : List Broken) → T (all_needed claim xs) → EachNeeded Claimed xs
  are_needed [] u = tt
  are_needed (x ∷ xs) u = (is-needed x (and_l (needed claim x) (all_needed claim xs) u), are_needed xs (and_r (needed claim x) (all_needed claim xs) u))

pub each_needed : EachNeeded Claim pairs
each_needed =
    are_needed claimed Claim
    (λ x k. says x.first x.second (outcome original 4 1 x.first x.tape) (outcome original 4 1 x.second x.tape) space k)
    pairs tables.conditions

-- and for the maps
pub each-needed_for_maps : EachNeeded MapClaim map_pairs
each-needed_for_maps =
    are_needed map_claimed MapClaim (λ x k. subst (λ (ns : List ℕ). T (same (map_of x.first x.tape) ns)) k (rw (same_self (map_of x.first x.tape)) tt)) map_pairs tables.map_conditions
