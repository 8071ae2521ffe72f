-- Lists of bytes: whether two are equal, whether one is listed, and a part of one.
use Rattle.std.specs.Prelude.{ℕ, ◌-◌, Bool, true, false, ◌&&◌, ◌||◌, List, [], ◌∷◌, take, drop, eqb}

-- whether two byte lists are equal
unfoldable pub same : List ℕ → List ℕ → Bool
same [] [] = true
same [] (y ∷ ys) = false
same (x ∷ xs) [] = false
same (x ∷ xs) (y ∷ ys) = eqb x y && same xs ys

-- w is one of the entries
unfoldable pub listed : List ℕ → List (List ℕ) → Bool
listed w [] = false
listed w (e ∷ es) = same e w || listed w es

-- Token::text: from start up to, not including, end
unfoldable pub token_text : List ℕ → ℕ → ℕ → List ℕ
token_text source start end = take (end - start) (drop start source)
