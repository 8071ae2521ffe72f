-- What two calls on one tape promise: each call's own promise, and beyond it, for two texts, the masking rule under the conditions that the
-- layout needs (demand 3's own conditions ask for more, layout/specs/Masking, so that its claim follows); for one text in two spaces, one length.
use Rattle.std.specs.Prelude.{◌≡◌, List, ℕ}
use Rattle.context.specs.Cells.{Text, Cell, bytes_of}
use Rattle.context.specs.Alike.{Like}
use Rattle.layout.specs.Layout.{original}
use Rattle.layout.specs.Outcome.{Result, laid_out, outcome}
use Rattle.layout.specs.Masking.{MaskedPair, MaskedPairForLayout, SameLines, cells_after}
use Rattle.layout.specs.MapCall.{Mapped, mapped, map_cells_after, numbers}
use Rattle.layout.specs.declared.Answer.{Answer}

-- a space that holds ys and zs after two calls, with each byte's origin X and Y: each byte has the same origin, and is the same wherever that is
-- none or a place where the texts agree
pub record MaskedSpaces (a b : Text) (X Y : List Cell) (ys zs : List ℕ) : Type 0 where
  pub first : ys ≡ bytes_of X
  pub second : zs ≡ bytes_of Y
  pub alike : Like a b X Y
  -- line for line, where newlines stand at the same places of both texts
  pub lines : SameLines a b → SameLines ys zs

-- two texts, in spaces that hold xs and us before and ys and zs afterwards
pub record LaysOutBoth (a b : Text) (tape : List ℕ) (width case : ℕ) (xs us : List ℕ) (r : Answer × Answer) (ys zs : List ℕ) : Type 0 where
  pub first : ◌≡◌ {A = Result} (record { answer = r.0; space = ys }) (laid_out (outcome original width case a tape) xs)
  pub second : ◌≡◌ {A = Result} (record { answer = r.1; space = zs }) (laid_out (outcome original width case b tape) us)
  pub masked : MaskedPairForLayout width case a b tape → xs ≡ us
      → (r.0 ≡ r.1) × MaskedSpaces a b (cells_after (outcome original width case a tape) xs) (cells_after (outcome original width case b tape) xs) ys zs

-- two texts with a token map: besides, the map spaces hold ms and ls before and ns and os afterwards
pub record MapsBoth (a b : Text) (tape : List ℕ) (width case : ℕ) (xs us ms ls : List ℕ) (r : Answer × Answer) (ys zs ns os : List ℕ) : Type 0 where
  pub first : ◌≡◌ {A = Mapped} (record { answer = r.0; space = ys; map = ns }) (mapped width case a tape xs ms)
  pub second : ◌≡◌ {A = Mapped} (record { answer = r.1; space = zs; map = os }) (mapped width case b tape us ls)
  -- number for number too, where newlines stand at the same places of both texts
  pub masked : MaskedPairForLayout width case a b tape → xs ≡ us → ms ≡ ls
      → (r.0 ≡ r.1) × MaskedSpaces a b (map_cells_after (outcome original width case a tape) (numbers width case a tape) xs ms) (map_cells_after (outcome original width case b tape) (numbers width case b tape) xs ms) ys zs
      × (SameLines a b → ns ≡ os)
  -- the rule's own conditions say that no masked place holds a newline
  pub by_lines : MaskedPair width case a b tape → xs ≡ us → ms ≡ ls → SameLines ys zs × (ns ≡ os)

-- one text, in spaces of any two lengths: what 13 and acceptance name is one length; a refusal has one place
pub record LaysOutTwice (text : Text) (tape : List ℕ) (width case : ℕ) (xs us : List ℕ) (r : Answer × Answer) (ys zs : List ℕ) : Type 0 where
  pub first : ◌≡◌ {A = Result} (record { answer = r.0; space = ys }) (laid_out (outcome original width case text tape) xs)
  pub second : ◌≡◌ {A = Result} (record { answer = r.1; space = zs }) (laid_out (outcome original width case text tape) us)
  pub one_value : r.0.value ≡ r.1.value
