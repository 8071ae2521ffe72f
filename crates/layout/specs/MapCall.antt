-- The call that lays out and fills the token map: its answer, and what both lent spaces hold afterwards; and the masking rule for two such calls.
use Rattle.std.specs.Prelude.{ℕ, ◌≡◌, Bool, true, false, cond, List, [], ◌∷◌, ◌++◌, length, drop, leb}
use Rattle.context.specs.Cells.{Text, Cell, bytes_of, fixed}
use Rattle.context.specs.Alike.{Like}
use Rattle.tape.specs.Faults.{number}
use Rattle.tape.specs.Tree.{Tree}
use Rattle.tape.specs.Tape.{Read, refused, got}
use Rattle.tape.specs.Call.{read_call}
use Rattle.layout.specs.declared.Answer.{Answer}
use Rattle.layout.specs.Layout.{original}
use Rattle.layout.specs.Outcome.{Outcome, refusal, laid, config_of, outcome, answer}
use Rattle.layout.specs.Lines.{Spot}
use Rattle.layout.specs.TokenMap.{token_map}
use Rattle.layout.specs.Masking.{SameLines, cells_after}

-- two numbers for each token
abbrev pub flat : List Spot → List ℕ
flat [] = []
flat (p ∷ ps) = p.line ∷ p.column ∷ flat ps

abbrev pub numbers_of : Read Tree → (Tree → List Spot) → List ℕ
numbers_of (refused f p) map = []
numbers_of (got t p) map = flat (map t)

-- the numbers of the map; none where the call is refused before 13
unfoldable pub numbers : ℕ → ℕ → Text → List ℕ → List ℕ
numbers width case text tape = numbers_of (read_call width case text tape) (token_map original (config_of width case) text)

-- an answer, and the output space and the map space afterwards
pub record Mapped : Type 0 where
  pub answer : Answer
  pub space : List ℕ
  pub map : List ℕ

-- 13, then 17 with the count of numbers needed, unless both spaces suffice. Numbers past the last token's are untouched, and on a refusal both spaces
abbrev pub map_fitted : Bool → Bool → List Cell → List ℕ → List ℕ → List ℕ → Mapped
map_fitted true true cs ns space map =
    record { answer = answer 0 (length cs); space = bytes_of cs ++ drop (length cs) space; map = ns ++ drop (length ns) map }
map_fitted true false cs ns space map = record { answer = answer 17 (length ns); space = space; map = map }
map_fitted false fits cs ns space map = record { answer = answer 13 (length cs); space = space; map = map }

abbrev pub mapped_as : Outcome → List ℕ → List ℕ → List ℕ → Mapped
mapped_as (refusal f p) ns space map = record { answer = answer (number f) p; space = space; map = map }
mapped_as (laid cs) ns space map = map_fitted (leb (length cs) (length space)) (leb (length ns) (length map)) cs ns space map

-- laying out with a map
unfoldable pub mapped : ℕ → ℕ → Text → List ℕ → List ℕ → List ℕ → Mapped
mapped width case text tape space map = mapped_as (outcome original width case text tape) (numbers width case text tape) space map

-- ── the masking rule for two such calls on one tape, which are lent the same spaces

-- the output space with each byte's origin: as after the layout call, unless the map does not fit
abbrev pub map_cells_after : Outcome → List ℕ → List ℕ → List ℕ → List Cell
map_cells_after x ns space map = cond (leb (length ns) (length map)) (cells_after x space) (fixed space)

pub record MapsAlike (width case : ℕ) (a b : Text) (tape space map : List ℕ) : Type 0 where
  -- equal answers: the count of numbers too; each byte of the output space has the same origin, and is the same wherever that is none or a place where the
  -- texts agree
  pub answers : (mapped width case a tape space map).answer ≡ (mapped width case b tape space map).answer
  pub spaces : Like a b (map_cells_after (outcome original width case a tape) (numbers width case a tape) space map) (map_cells_after (outcome original width case b tape) (numbers width case b tape) space map)
  -- line for line and number for number, where newlines stand at the same places of both texts
  pub lines : SameLines a b → SameLines (mapped width case a tape space map).space (mapped width case b tape space map).space
  pub maps : SameLines a b → (mapped width case a tape space map).map ≡ (mapped width case b tape space map).map

-- the same under the rule's own conditions, which give the newlines of the texts
pub record MapsAlikeByLines (width case : ℕ) (a b : Text) (tape space map : List ℕ) : Type 0 where
  pub alike : MapsAlike width case a b tape space map
  pub lines : SameLines (mapped width case a tape space map).space (mapped width case b tape space map).space
  pub maps : (mapped width case a tape space map).map ≡ (mapped width case b tape space map).map
