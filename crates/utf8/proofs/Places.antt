-- The walk over the characters of a text, by places: n is the length of the character at place i.
use Prim.Native.Nat.{ℕ, zero, suc, ◌+◌, ◌≤◌, ◌<◌}
use native.Mathlib.Omega.{arith}
use mathlib.Core.Path.{◌≡◌, refl, sym, ap, ◌∙◌}
use mathlib.Core.Bool.{false}
use mathlib.Core.List.{List, [], ◌∷◌}
use lib.ListN.{length, drop, get_or, length-drop}
use lib.Seq.{drop-drop, drop-length}
use Rattle.std.specs.Prelude.{Some, None}
use Rattle.utf8.specs.Table.{holds, character_length}
use Rattle.utf8.specs.Pieces.{first_ill_formed, is_trailing}
use Rattle.utf8.proofs.Rows.{shape}
use Rattle.utf8.proofs.Cutting.{ill_on, ill_here, ill_none}

module _ (text : List ℕ) (i n : ℕ) (in_text : i < length text) (is : n ≡ character_length (drop i text)) where
  pub length-within : i + n ≤ length text
  length-within = omega (arith, is, (shape (drop i text)).within, length-drop i text)

  some_left : 0 < length (drop i text)
  some_left = omega (arith, length-drop i text)

  pub ill_at : n ≡ 0 → first_ill_formed i (drop i text) ≡ Some i
  ill_at z = ill_here i (drop i text) some_left (sym is ∙ z)

  pub ill_after : (n ≡ 0 → ⊥) → first_ill_formed i (drop i text) ≡ first_ill_formed (i + n) (drop (i + n) text)
  ill_after z =
      ill_on i (drop i text) some_left (λ e. z (is ∙ e))
      ∙ ap (λ k. first_ill_formed (i + k) (drop k (drop i text))) (sym is)
      ∙ ap (first_ill_formed (i + n)) (drop-drop n i text)

pub ill_end : (text : List ℕ) (i : ℕ) → i ≤ length text → length text ≤ i → first_ill_formed i (drop i text) ≡ None
ill_end text i u v =
    let e : i ≡ length text = omega arith in
    ap (first_ill_formed i) (ap (λ k. drop k text) e ∙ drop-length text) ∙ ill_none i

-- past the end no byte goes on with a character
pub not_trailing_past : (text : List ℕ) (i : ℕ) → length text ≤ i → is_trailing (get_or text i 0) ≡ false
unfolding is_trailing holds
not_trailing_past [] i h = refl
not_trailing_past (b ∷ bs) zero h = absurd (omega arith)
not_trailing_past (b ∷ bs) (suc i) h = not_trailing_past bs i (omega arith)
