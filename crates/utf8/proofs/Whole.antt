-- `first_ill_formed` is the first byte that is not part of a well-formed character, wherever such a character begins.
use Prim.Native.Nat.{ℕ, zero, suc, ◌+◌, ◌-◌, ◌≤◌, ◌<◌}
use native.Mathlib.Nat.{add-zero}
use native.Mathlib.Omega.{arith}
use mathlib.Core.Path.{◌≡◌, refl, sym, ap, subst, ◌∙◌}
use mathlib.Core.Bool.{Bool, true, false}
use mathlib.Core.List.{List}
use mathlib.Core.Logic.{◌⊎◌, inl, inr, ⊎_elim}
use lib.ListN.{length, drop, get_or}
use lib.Seq.{get_or-drop}
use lib.Dec.{ltb, eqb}
use borrow.Author.Tests.{ltb-true, ltb-false, eqb-true, eqb-false}
use Rattle.std.proofs.lemmas.Bool.{both_ways}
use Rattle.std.specs.Prelude.{Option, Some, None}
use Rattle.utf8.specs.Table.{character_length}
use Rattle.utf8.specs.Pieces.{first_ill_formed, WellFormed, is_trailing}
use Rattle.utf8.specs.Parts.{PartOf}
use Rattle.utf8.proofs.Rows.{shape}
use Rattle.utf8.proofs.Places.{length-within, ill_at, ill_after, ill_end}

module _ (text : List ℕ) where
  -- each byte before place i is part of a character; where one begins, it ends by i
  abbrev Passed : ℕ → Type 0
  Passed i = (k : ℕ) → k < i → PartOf text k × ((is_trailing (get_or text k 0) ≡ true) ⊎ (k + character_length (drop k text) ≤ i))

  abbrev Reached : Option ℕ → Type 0
  Reached None = Passed (length text)
  Reached (Some p) = (p < length text) × Passed p × (character_length (drop p text) ≡ 0)

  module _ (i n : ℕ) (is : n ≡ character_length (drop i text)) where
    begun : (k : ℕ) → i ≤ k → k < i + n → (t : Bool) → eqb k i ≡ t → (is_trailing (get_or text k 0) ≡ true) ⊎ (k + character_length (drop k text) ≤ i + n)
    begun k u v true w =
        let e = eqb-true k i w in
        let f : character_length (drop k text) ≡ n = ap (λ j. character_length (drop j text)) e ∙ sym is in
        inr (omega arith)
    begun k u v false w =
        let e = eqb-false k i w in
        let f : i + suc (k - suc i) ≡ k = omega arith in
        let s = (shape (drop i text)).tail (k - suc i) (omega arith) in
        inl (ap (λ j. is_trailing (get_or text j 0)) (sym f) ∙ ap is_trailing (sym (get_or-drop i text (suc (k - suc i)) 0)) ∙ s)

    passed_more : Passed i → Passed (i + n)
    passed_more passed k h = go (ltb k i) refl
      where
        go : (t : Bool) → ltb k i ≡ t → PartOf text k × ((is_trailing (get_or text k 0) ≡ true) ⊎ (k + character_length (drop k text) ≤ i + n))
        go true w = let r = passed k (ltb-true k i w) in (r.0, ⊎_elim (λ a. inl a) (λ a. inr (omega arith)) r.1)
        go false w =
            let u = ltb-false k i w in
            (record { start = i; before = u; past = omega (arith, is) }, begun k u h (eqb k i) refl)

  done : (i : ℕ) → i ≤ length text → length text ≤ i → Passed i → Reached (first_ill_formed i (drop i text))
  done i a b passed =
      let e : i ≡ length text = omega arith in
      subst Reached (sym (ill_end text i a b)) (subst Passed e passed)

  walk : (fuel i : ℕ) → i ≤ length text → length text ≤ i + fuel → Passed i → Reached (first_ill_formed i (drop i text))
  walk zero i a b passed = done i a (omega arith) passed
  walk (suc fuel) i a b passed =
      go (ltb i (length text)) refl (λ u v. walk fuel (i + character_length (drop i text)) u v (passed_more i (character_length (drop i text)) refl passed))
    where
      go_2 : i < length text → (t : Bool) → eqb (character_length (drop i text)) 0 ≡ t
          → (i + character_length (drop i text) ≤ length text → length text ≤ i + character_length (drop i text) + fuel
          → Reached (first_ill_formed (i + character_length (drop i text)) (drop (i + character_length (drop i text)) text)))
          → Reached (first_ill_formed i (drop i text))
      go_2 lt true w next =
          let z = eqb-true (character_length (drop i text)) 0 w in
          subst Reached (sym (ill_at text i (character_length (drop i text)) lt refl z)) (lt, passed, z)
      go_2 lt false w next =
          let z = eqb-false (character_length (drop i text)) 0 w in
          subst Reached (sym (ill_after text i (character_length (drop i text)) lt refl z)) (next (length-within text i (character_length (drop i text)) lt refl) (omega arith))

      go : (t : Bool) → ltb i (length text) ≡ t
          → (i + character_length (drop i text) ≤ length text → length text ≤ i + character_length (drop i text) + fuel
          → Reached (first_ill_formed (i + character_length (drop i text)) (drop (i + character_length (drop i text)) text)))
          → Reached (first_ill_formed i (drop i text))
      go true w next = go_2 (ltb-true i (length text) w) (eqb (character_length (drop i text)) 0) refl next
      go false w next = done i a (ltb-false i (length text) w) passed

  reached : Reached (first_ill_formed 0 text)
  reached = walk (length text) 0 (omega arith) (omega arith) (λ k h. absurd (omega arith))

  -- where there is none, each byte is part of a character
  pub whole : WellFormed text → (k : ℕ) → k < length text → PartOf text k
  whole w k h = (subst Reached w reached k h).0

  module _ (p : ℕ) (found : first_ill_formed 0 text ≡ Some p) where
    abbrev at : Reached (Some p)
    at = subst Reached found reached

    pub before-part : (k : ℕ) → k < p → PartOf text k
    before-part k h = (at.1 k h).0

    -- a character that goes past p begins nowhere: not at p, and none that begins before reaches p
    pub not_part : PartOf text p → ⊥
    not_part r = go (eqb r.start p) refl
      where
        long : 0 < character_length (drop r.start text)
        long = omega (arith, r.past, r.before)

        go : (t : Bool) → eqb r.start p ≡ t → ⊥
        go true w =
            let e = ap (λ j. character_length (drop j text)) (eqb-true r.start p w) ∙ at.2 in
            omega (arith, long)
        go false w =
            let e = eqb-false r.start p w in
            let q = at.1 r.start (omega (arith, r.before)) in
            let head = (shape (drop r.start text)).head long in
            ⊎_elim (λ t. both_ways _ (ap is_trailing (ap (λ j. get_or text j 0) (sym (add-zero r.start)) ∙ sym (get_or-drop r.start text 0 0)) ∙ head) t) (λ l. omega (arith, r.past)) q.1
