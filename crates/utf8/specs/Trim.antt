-- A list without the white space at its end. What counts as white space is a test, over elements of any sort.
use Rattle.std.specs.Prelude.{Bool, cond, List, [], ◌∷◌}

module _ {A : Type 0} (white : A → Bool) where
  -- one more element in front of a trimmed list
  abbrev pub trim_cons : A → List A → List A
  trim_cons x [] = cond (white x) [] (x ∷ [])
  trim_cons x (y ∷ ys) = x ∷ y ∷ ys

  unfoldable pub trim : List A → List A
  trim [] = []
  trim (x ∷ xs) = trim_cons x (trim xs)
