-- The index of the list: which entry can be equal to a word.
use Rattle.std.specs.Prelude.{cond, ◌&&◌, ◌≡◌, List, [], ◌∷◌, ℕ, zero, suc, ◌+◌, ◌*◌, ◌-◌, ◌/◌, ◌%◌, ◌<◌, eqb, leb, length, get_or, Option, Some, None, option_and_then}
use Rattle.std.specs.Bool.{then_some}
use Rattle.basics.specs.Match.{match}
use Rattle.keywords.specs.Words.{words}
use Rattle.keywords.specs.declared.index.Entry.{Entry}
use Rattle.keywords.specs.declared.index.TheConstants.{SHIFTS}

-- the number of a letter, in either case
abbrev pub letter_at : List ℕ → ℕ → ℕ
letter_at w i = get_or w i 0 % 32

-- a word's key; the last of what is added keeps the keys of the entries apart
unfoldable pub key : List ℕ → ℕ
key w = (2 * letter_at w 1 + 5 * letter_at w (length w / 2) + letter_at w (length w - 1) + get_or SHIFTS ((letter_at w 0 + 4 * length w) % 64) 0) % 256

-- the entries by their keys, from a place of the list and of the table on
unfoldable pub index : ℕ → ℕ → List (List ℕ) → List (ℕ × Option Entry)
index i n [] = []
index i n (e ∷ es) = (key e, Some (record { place = i; at = n; first = letter_at e 0 })) ∷ index (suc i) (n + suc (length e)) es

-- the entry with a key, if there is one
unfoldable pub entry_of : ℕ → Option Entry
entry_of k = match k (index 0 0 words) None

-- the one entry that can be equal to a word: none to one of less than 2 or more than 12 bytes, else the entry with the word's key, if that begins, in
-- either case, with the word's first letter
abbrev pub candidate : List ℕ → Option Entry
candidate w =
    cond (leb 2 (length w) && leb (length w) 12) (option_and_then (λ (e : Entry). then_some (eqb e.first (letter_at w 0)) e) (entry_of (key w))) None

-- where the entry at a place of the list begins in the table
unfoldable pub offset : ℕ → List (List ℕ) → ℕ
offset i [] = 0
offset zero (e ∷ es) = 0
offset (suc i) (e ∷ es) = suc (length e + offset i es)

-- it is an entry of the list
pub record Stands (e : Entry) : Type 0 where
  pub inside : e.place < length words
  pub begins : e.at ≡ offset e.place words
