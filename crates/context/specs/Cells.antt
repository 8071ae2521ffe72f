-- Bytes of the text and cells of the output: a cell is a byte with the place that it was copied from.
use Rattle.std.specs.Prelude.{ℕ, suc, ◌+◌, Bool, cond, List, [], ◌∷◌, map, eqb}
unfoldable pub use Rattle.basics.specs.Bytes.{token_text}
use Rattle.basics.specs.Case.{to_uppercase, to_lowercase}

abbrev pub Text : Type 0
Text = List ℕ

-- a byte in upper case, or in lower case
abbrev pub to_case : Bool → ℕ → ℕ
to_case uppercase b = cond uppercase (to_uppercase b) (to_lowercase b)

-- how often b occurs
abbrev pub count : ℕ → List ℕ → ℕ
count b [] = 0
count b (x ∷ xs) = cond (eqb x b) 1 0 + count b xs

-- where an output byte comes from: the layout made it, or it was copied from a place of the text
pub data Origin : Type 0 where
  made : Origin
  from : ℕ → Origin

pub record Cell : Type 0 where
  pub byte : ℕ
  pub origin : Origin

abbrev pub bytes_of : List Cell → List ℕ
bytes_of = map (λ (c : Cell). c.byte)

abbrev pub fresh : ℕ → Cell
fresh b = record { byte = b; origin = made }

abbrev pub fixed : List ℕ → List Cell
fixed = map fresh

-- these bytes, copied from place p on
abbrev pub copied_from : ℕ → List ℕ → List Cell
copied_from p [] = []
copied_from p (b ∷ bs) = record { byte = b; origin = from p } ∷ copied_from (suc p) bs

-- the text from start up to end, copied
abbrev pub span_cells : Text → ℕ → ℕ → List Cell
span_cells source start end = copied_from start (token_text source start end)

-- a change of case keeps the origin
abbrev pub cell_in_case : Bool → Cell → Cell
cell_in_case uppercase c = record { byte = to_case uppercase c.byte; origin = c.origin }
