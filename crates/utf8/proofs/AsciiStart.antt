-- The ASCII bytes at the start of a well-formed text: no place up to their end lies inside a character, and each part of them is ASCII.
use Prim.Native.Nat.{ℕ, ◌+◌, ◌-◌, ◌≤◌}
use native.Mathlib.Nat.{add-zero, le_trans}
use native.Mathlib.Omega.{arith}
use mathlib.Core.Path.{◌≡◌, refl, sym, ap, ◌∙◌}
use mathlib.Core.Bool.{Bool, true, false}
use mathlib.Core.List.{List, [], ◌∷◌}
use lib.ListN.{length, take, drop, get_or, take-append-drop, length-drop}
use lib.Seq.{length-take-le, take-take, take-append-le, drop-append-le, get_or-drop}
use lib.Dec.{eqb}
use borrow.Author.Tests.{eqb-true, eqb-false}
use Rattle.basics.specs.Bytes.{token_text}
use Rattle.std.specs.Prelude.{None}
use Rattle.utf8.specs.Table.{holds, character_length, is_ascii}
use Rattle.utf8.specs.Pieces.{first_ill_formed, WellFormed, is_trailing, Boundary, Starts}
use Rattle.utf8.proofs.Rows.{shape}
use Rattle.utf8.proofs.Cutting.{ill_here}
use Rattle.utf8.proofs.CharacterLength.{ascii-passed, ascii_take, ascii-part}

-- where nothing is ill-formed, a character begins
well_starts : (q : ℕ) (xs : List ℕ) → first_ill_formed q xs ≡ None → Starts xs
unfolding is_trailing holds
well_starts q [] e = refl
well_starts q (x ∷ xs) e = go (eqb (character_length (x ∷ xs)) 0) refl
  where
    go : (t : Bool) → eqb (character_length (x ∷ xs)) 0 ≡ t → Starts (x ∷ xs)
    go true w = let u = sym (ill_here q (x ∷ xs) (omega arith) (eqb-true (character_length (x ∷ xs)) 0 w)) ∙ e in cc
    go false w = let z = eqb-false (character_length (x ∷ xs)) 0 w in (shape (x ∷ xs)).head (omega arith)

module _ (text : List ℕ) (n : ℕ) (within : n ≤ length text) (ascii : is_ascii (take n text) ≡ true) where
  front_ascii : (p : ℕ) → p ≤ n → is_ascii (take p text) ≡ true
  front_ascii p h = ap is_ascii (sym (take-take p n text h)) ∙ ascii_take p (take n text) ascii

  pub start-boundary : WellFormed text → (p : ℕ) → p ≤ n → Boundary text p
  start-boundary w p h =
      let e = sym (ascii-passed 0 p text (le_trans h within) (front_ascii p h)) ∙ w in
      ap (λ k. is_trailing (get_or text k 0)) (sym (add-zero p)) ∙ ap is_trailing (sym (get_or-drop p text 0 0)) ∙ well_starts (0 + p) (drop p text) e

  pub start-part : (start end : ℕ) → start ≤ end → end ≤ n → is_ascii (token_text text start end) ≡ true
  unfolding token_text
  start-part start end o h = ap is_ascii part ∙ ascii-part (take n text) ascii start end
    where
      long : length (take n text) ≡ n
      long = length-take-le n text within

      part : take (end - start) (drop start text) ≡ take (end - start) (drop start (take n text))
      part =
          ap (λ xs. take (end - start) (drop start xs)) (sym (take-append-drop n text))
          ∙ ap (take (end - start)) (drop-append-le start (take n text) (drop n text) (omega (arith, long)))
          ∙ take-append-le (end - start) (drop start (take n text)) (drop n text) (omega (arith, long, length-drop start (take n text)))
