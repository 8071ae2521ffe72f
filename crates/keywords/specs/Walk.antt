-- The walk over the list (request E4): the first entry that is equal to a length and bytes, whatever they are.
use Rattle.std.specs.Prelude.{cond, List, ◌++◌, ℕ, leb, length, take, drop, replicate, Option, None}
use Rattle.keywords.specs.Words.{capitals, place_of}

-- the place in a list of the first entry that is equal to a length and bytes: there are so many bytes, and so many of them are the entry
abbrev pub first_equal : ℕ → List ℕ → List (List ℕ) → Option ℕ
first_equal n bytes list = cond (leb n (length bytes)) (place_of (take n bytes) list) None

-- what the walk is handed of a word: its letters in upper case and zeros after them, twelve in all. Of a longer word it is the first twelve letters
abbrev pub capital_letters : List ℕ → List ℕ
capital_letters w = take 12 (capitals w ++ drop (length w) (replicate 12 0))
