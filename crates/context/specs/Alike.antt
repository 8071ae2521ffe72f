-- When the cells written for two texts are alike, as the masking rule has it.
use Rattle.std.specs.Prelude.{◌≡◌, List, [], ◌∷◌, get_or, eqb}
use Rattle.context.specs.Cells.{Text, Origin, made, from, Cell}

-- the texts have the same byte at the origin
abbrev pub Agree : Text → Text → Origin → Type 0
Agree a b made = Unit {0}
Agree a b (from p) = get_or a p 0 ≡ get_or b p 0

-- a newline stands at the origin in both texts or in neither
abbrev pub LinesAgree : Text → Text → Origin → Type 0
LinesAgree a b made = Unit {0}
LinesAgree a b (from p) = eqb (get_or a p 0) 10 ≡ eqb (get_or b p 0) 10

pub record CellLike (a b : Text) (x y : Cell) : Type 0 where
  pub origins : x.origin ≡ y.origin
  pub bytes : Agree a b x.origin → x.byte ≡ y.byte
  pub lines : LinesAgree a b x.origin → eqb x.byte 10 ≡ eqb y.byte 10

-- as many cells, each alike
abbrev pub Like : Text → Text → List Cell → List Cell → Type 0
Like a b [] [] = Unit {0}
Like a b [] (y ∷ ys) = ⊥
Like a b (x ∷ xs) [] = ⊥
Like a b (x ∷ xs) (y ∷ ys) = CellLike a b x y × Like a b xs ys
