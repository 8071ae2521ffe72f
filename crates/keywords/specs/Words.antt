-- Which words are keywords, and which of them are values: `is_keyword` and `is_value_keyword` of format_node.rs, and both in one answer.
use Rattle.std.specs.Prelude.{Bool, true, false, cond, ◌||◌, List, [], ◌∷◌, map, ℕ, suc, Option, Some, None}
use Prim.Native.Char.{code}
use Prim.Native.String.{String}
unfoldable pub use Rattle.basics.specs.Bytes.{same, listed}
use Rattle.basics.specs.Case.{to_uppercase}
use Rattle.keywords.specs.Names.{names}
use Rattle.keywords.specs.declared.Word.{Word}
use Rattle.keywords.specs.declared.Word.TheVariants.{Plain, Value, Keyword}

-- a text's characters as numbers
abbrev pub bytes : String → List ℕ
bytes String.[] = []
bytes (String.◌∷◌ c s) = code c ∷ bytes s

-- the keywords as bytes, in the source's order
unfoldable pub words : List (List ℕ)
unfolding names
words = map bytes names

-- a word in upper case
abbrev pub capitals : List ℕ → List ℕ
capitals w = map to_uppercase w

-- `is_keyword`: the word, in any case, is on the list
abbrev pub is_keyword : List ℕ → Bool
is_keyword w = listed (capitals w) words

-- the word, in any case, is the given one
abbrev pub is_word : String → List ℕ → Bool
is_word s w = same (capitals w) (bytes s)

-- `is_value_keyword`
abbrev pub is_value_keyword : List ℕ → Bool
is_value_keyword w = is_word "TRUE" w || (is_word "FALSE" w || is_word "NULL" w)

-- one place further on
abbrev pub next : Option ℕ → Option ℕ
next (Some i) = Some (suc i)
next None = None

-- the place of the first entry that is equal to w, counted from 0
unfoldable pub place_of : List ℕ → List (List ℕ) → Option ℕ
place_of w [] = None
place_of w (e ∷ es) = cond (same e w) (Some 0) (next (place_of w es))

-- a word of no place is plain, one with a place a value word or another keyword
abbrev pub sort_of : Bool → Option ℕ → Word
sort_of value None = Plain
sort_of true (Some i) = Value i
sort_of false (Some i) = Keyword i

-- which of the three sorts of word it is, in any case, and its place
abbrev pub word_of : List ℕ → Word
word_of w = sort_of (is_value_keyword w) (place_of (capitals w) words)
