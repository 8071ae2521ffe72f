-- A text cut into its characters. A byte at which no well-formed character begins is a piece of its own, so that every text can be cut.
use Rattle.std.specs.Prelude.{ℕ, zero, suc, ◌+◌, ◌-◌, ◌≡◌, Bool, cond, false, List, [], ◌∷◌, ◌++◌, length, take, get_or, ltb, Option, Some, None}
use Rattle.utf8.specs.Table.{◌‥◌, holds, character_length}

pub data Piece : Type 0 where
  -- a well-formed character: its bytes
  character : List ℕ → Piece
  -- a byte that is part of none
  stray : ℕ → Piece

abbrev pub bytes_of : Piece → List ℕ
bytes_of (character c) = c
bytes_of (stray b) = b ∷ []

abbrev pub all_bytes : List Piece → List ℕ
all_bytes [] = []
all_bytes (p ∷ ps) = bytes_of p ++ all_bytes ps

-- the piece at b, where a character of n bytes begins, or none
abbrev pub piece_at : ℕ → ℕ → List ℕ → Piece
piece_at zero b bs = stray b
piece_at (suc n) b bs = character (b ∷ take n bs)

-- how many bytes of it come after the first
abbrev pub later : ℕ → ℕ
later zero = 0
later (suc n) = n

-- the first number: how many bytes belong to a piece already cut
unfoldable pub cut : ℕ → List ℕ → List Piece
cut k [] = []
cut (suc k) (b ∷ bs) = cut k bs
cut zero (b ∷ bs) = piece_at (character_length (b ∷ bs)) b bs ∷ cut (later (character_length (b ∷ bs))) bs

abbrev pub pieces : List ℕ → List Piece
pieces text = cut 0 text

abbrev pub first_stray : ℕ → List Piece → Option ℕ
first_stray p [] = None
first_stray p (character c ∷ ps) = first_stray (p + length c) ps
first_stray p (stray b ∷ ps) = Some p

-- the place of the first byte that is not part of a well-formed character, counted from p
unfoldable pub first_ill_formed : ℕ → List ℕ → Option ℕ
first_ill_formed p text = first_stray p (pieces text)

abbrev pub WellFormed : List ℕ → Type 0
WellFormed text = first_ill_formed 0 text ≡ None

-- whether place p lies strictly inside one of these pieces
abbrev pub inside : ℕ → List Piece → Bool
inside p [] = false
inside p (c ∷ cs) = cond (ltb p (length (bytes_of c))) (ltb 0 p) (inside (p - length (bytes_of c)) cs)

-- a second, third or fourth byte of a character
unfoldable pub is_trailing : ℕ → Bool
is_trailing b = holds (0x80 ‥ 0xBF) b

-- no such byte stands at place p: in a well-formed text it lies inside no character. The text's end is such a place
abbrev pub Boundary : List ℕ → ℕ → Type 0
Boundary text p = is_trailing (get_or text p 0) ≡ false

-- these bytes begin with nothing that a character before them could go on with
abbrev pub Starts : List ℕ → Type 0
Starts bytes = Boundary bytes 0
