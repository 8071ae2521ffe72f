-- The list as the code has it, one flat table, and the rule of its entries.
use Rattle.std.specs.Prelude.{Bool, true, ◌&&◌, List, [], ◌∷◌, ◌++◌, ℕ, T, leb, length}
use Rattle.keywords.specs.Names.{names}
use Rattle.keywords.specs.Words.{words}

-- of each entry its length, then its letters
unfoldable pub flat : List (List ℕ) → List ℕ
flat [] = []
flat (e ∷ es) = length e ∷ e ++ flat es

unfoldable pub table : List ℕ
table = flat words

-- the rule of an entry: 2 to 12 bytes, each a capital letter
abbrev pub capital : List ℕ → Bool
capital [] = true
capital (b ∷ bs) = (leb 65 b && leb b 90) && capital bs

abbrev pub entry : List ℕ → Bool
entry e = (leb 2 (length e) && leb (length e) 12) && capital e

abbrev pub entries : List (List ℕ) → Bool
entries [] = true
entries (e ∷ es) = entry e && entries es

-- the rule over the whole list: one computed test
pub words-rule : T (entries words)
unfolding words names
words-rule = tt
