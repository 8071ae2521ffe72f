-- The change requests follow from the definitions; their conditions are met by real words.
use mathlib.Core.Path.{◌≡◌, refl, sym, ap, ◌∙◌}
use mathlib.Core.Bool.{Bool, false, cond}
use mathlib.Core.List.{List, [], ◌∷◌}
use Prim.Native.Nat.{ℕ, zero, suc, ◌≤◌, ◌<◌}
use native.Mathlib.Omega.{arith}
use lib.ListN.{length, get_or, take}
use lib.Dec.{T, leb}
use borrow.Author.Tests.{le-leb}
use Rattle.std.proofs.lemmas.Bool.{cond_both, leb-true}
use Rattle.basics.specs.Case.{to_uppercase}
use Rattle.basics.proofs.Same.{same-equal}
use Rattle.keywords.specs.Names.{names}
use Rattle.keywords.specs.Words.{bytes, capitals, next, place_of, same, word_of, words}
use Rattle.keywords.specs.Walk.{first_equal}
use Rattle.std.specs.Prelude.{Option, Some, None}
use Rattle.keywords.specs.declared.Word.{Word}
use Rattle.keywords.specs.declared.Word.TheVariants.{Plain, Value, Keyword}
use Rattle.keywords.proofs.Places.{placed_entry, same_self}
use Rattle.keywords.proofs.Sorts.{is_listed, keyword-listed}
use Rattle.context.specs.Cells.{Text}
use Rattle.tape.specs.Tree.{Tree}
use Rattle.tape.specs.Tape.{got}
use Rattle.tape.specs.Call.{read_call}
use Rattle.layout.specs.declared.Answer.{Answer}
use Rattle.layout.specs.Layout.{original, format}
use Rattle.layout.specs.Outcome.{Result, answer, config_of, number_in, names_length}
use Rattle.layout.proofs.OneLength.{named}
use Rattle.two_calls.specs.Both.{LaysOutTwice}
use Rattle.acceptance.specs.Demands.{formatted}
use Rattle.acceptance.specs.Requests.{FirstAt, FirstEntry, SortOfWord, OneCall}
use Rattle.acceptance.proofs.Demands.{was_laid, as_long}

first-placed : (w : List ℕ) (list : List (List ℕ)) (i : ℕ) → FirstAt w list i → place_of w list ≡ Some i
unfolding place_of
first-placed w [] i x = absurd (omega (arith, x.inside))
first-placed w (e ∷ es) zero x = rw (x.is, same_self w)
first-placed w (e ∷ es) (suc i) x =
    let rest = first-placed w es i (record { inside = omega (arith, x.inside); is = x.is; first = λ j h. x.first (suc j) (omega (arith, h)) }) in
    cond_both (same e w) (Some 0) (next (place_of w es)) (λ o. o ≡ Some (suc i))
    (λ s. absurd (x.first 0 (omega arith) (same-equal e w s))) (λ s. ap next rest)

pub sort_of_word : (w : List ℕ) (r : Word) → r ≡ word_of w → SortOfWord w r
sort_of_word w r e =
    record {
      plain = λ h. e ∙ unlisted (word_of w) (sym (keyword-listed w) ∙ h);
      value = λ i x v. e ∙ rw (v, first-placed (capitals w) words i x) refl;
      keyword = λ i x v. e ∙ rw (v, first-placed (capitals w) words i x) refl;
    }
  where
    unlisted : (z : Word) → is_listed z ≡ false → z ≡ Plain
    unlisted Plain h = refl
    unlisted (Value i) h = cc
    unlisted (Keyword i) h = cc

pub first_entry : (n : ℕ) (bytes : List ℕ) (r : Option ℕ) → r ≡ first_equal n bytes words → FirstEntry n bytes r
first_entry n bytes r e =
    record {
      first = λ l i x. e ∙ rw (le-leb n (length bytes) l) (first-placed (take n bytes) words i x);
      none =
          λ h. e ∙ cond_both (leb n (length bytes)) (place_of (take n bytes) words) None (λ o. o ≡ None) (λ l. go _ refl (leb-true n (length bytes) l) h) (λ l. refl);
    }
  where
    go : (p : Option ℕ) → place_of (take n bytes) words ≡ p → n ≤ length bytes
        → (n ≤ length bytes → (i : ℕ) → i < length words → get_or words i [] ≡ take n bytes → ⊥) → p ≡ None
    go None q l h = refl
    go (Some i) q l h = let x = placed_entry (take n bytes) words i q in absurd (h l i x.inside x.is)

-- ── words of each sort; a list with an entry that stands in it twice is in keywords/proofs/Walked

worked-words : (word_of (bytes "seLect") ≡ Keyword 0) × (word_of (bytes "keyed") ≡ Keyword 216)
    × (word_of (bytes "Null") ≡ Value 97) × (word_of (bytes "true") ≡ Value 98) × (word_of (bytes "FALSE") ≡ Value 99)
    × (word_of (bytes "selects") ≡ Plain) × (word_of (bytes "selec") ≡ Plain) × (word_of [] ≡ Plain)
unfolding names words same place_of to_uppercase
worked-words = (refl, refl, refl, refl, refl, refl, refl, refl)

-- ── E5

module _ (width case : ℕ) (text : Text) (tape before_a before_b : List ℕ) (r : Answer × Answer) (after_a after_b : List ℕ) (twice : LaysOutTwice text tape width case before_a before_b r after_a after_b) where
  -- the first call names the length of what `format` returns, with 0 or 13 by the space
  first-named : (t : Tree) (p : ℕ) → read_call width case text tape ≡ got t p
      → r.0 ≡ answer (number_in (length before_a) (length (formatted width case text t))) (length (formatted width case text t))
  first-named t p e =
      ap (λ (z : Result). z.answer) twice.first
      ∙ rw (was_laid width case text tape t p e, named (format original (config_of width case) text t) before_a, as_long width case text t)

  is-named : (room needed : ℕ) → T (names_length (answer (number_in room needed) needed))
  is-named room needed = cond_both (leb needed room) 0 13 (λ x. T (names_length (answer x needed))) (λ e. tt) (λ e. tt)

  pub one_call : OneCall width case text tape before_a before_b r after_a after_b
  one_call =
      record {
        call_a = twice.first;
        call_b = twice.second;
        named =
            λ t p e. (
              rw (first-named t p e) (is-named (length before_a) (length (formatted width case text t))),
              ap (λ (a : Answer). a.value) (first-named t p e),
            );
        same_length = λ m n. twice.one_value;
        needs_none = λ t p e z. first-named t p e ∙ rw z (ap (λ (b : Bool). answer (cond b 0 13) 0) (le-leb 0 (length before_a) (omega arith)));
      }
