-- What the parts of the call ask and promise, where the tape is accepted.
use Rattle.std.specs.Prelude.{◌≡◌, List, ◌++◌, map, ℕ, ◌*◌, ◌^◌, ◌≤◌, length, take, drop}
use Rattle.utf8.specs.Trimming.{trimmed_length}
use Rattle.context.specs.Cells.{Text, Cell, bytes_of}
use Rattle.context.specs.Splice.{splice}
use Rattle.context.specs.Context.{new_state}
use Rattle.context.specs.declared.FormatConfig.{FormatConfig}
use Rattle.tape.specs.Tree.{Tree, tokens}
use Rattle.tape.specs.Tape.{got, read_tree}
use Rattle.tape.specs.SpelledAt.{AcceptedTape}
use Rattle.tape.specs.NodeFacts.{Noted}
use Rattle.layout.specs.declared.Answer.{Answer}
use Rattle.layout.specs.Layout.{written, original, pieces_of, format}
use Rattle.layout.specs.FormatNode.{format_node}
use Rattle.layout.specs.TokenMap.{places_from, entry, token_map}
use Rattle.layout.specs.MapCall.{flat, Mapped, mapped_as}
use Rattle.layout.specs.SpanStarts.{SpansStart}
use Rattle.token_map.specs.Notes.{note_all}
use Rattle.token_map.specs.Spots.{spots}
use Rattle.layout.specs.Outcome.{Result, laid, laid_out}
use Rattle.formatter.specs.RoutinePromises.{Sizes}

-- the tape is accepted, its spans begin at bounds of characters, and the check has noted what is true of each node of its tree
pub record Ready (text tape facts : List ℕ) (config : FormatConfig) : Type 0 where
  pub sizes : Sizes text tape facts config
  pub accepted : AcceptedTape (length text) tape
  pub starts : SpansStart text accepted.tree
  pub noted : Noted facts accepted.tree

-- all that is written for the tree, before it is trimmed
abbrev pub all_cells : FormatConfig → Text → Tree → List Cell
all_cells config text t = written (pieces_of original config text t)

-- k is the trimmed length
pub record Trims (text tape : List ℕ) (config : FormatConfig) (k : ℕ) : Type 0 where
  pub short : k ≤ 2 ^ 60
  pub all : (t : Tree) (p : ℕ) → read_tree (length text) tape ≡ got t p → k ≡ trimmed_length (bytes_of (all_cells config text t))

-- the places of the tokens were noted in the map, from ms to ns
pub record Notes (text tape : List ℕ) (config : FormatConfig) (ms ns : List ℕ) : Type 0 where
  pub all : (t : Tree) (p : ℕ) → read_tree (length text) tape ≡ got t p → ns ≡ note_all (places_from config text format_node t (new_state, 0)) ms

-- a walk has trimmed length k, and took the space from xs to ys: all that is written, as far as the space goes; the map went from ms to ns
pub record WalkedInto (text tape : List ℕ) (config : FormatConfig) (xs ms : List ℕ) (k : ℕ) (ys ns : List ℕ) : Type 0 where
  pub trims : Trims text tape config k
  pub notes : Notes text tape config ms ns
  pub all : (t : Tree) (p : ℕ) → read_tree (length text) tape ≡ got t p → ys ≡ splice 0 (bytes_of (all_cells config text t)) xs

-- what trimming leaves stands in front of the space, if the space is that long
pub record Holds (text tape : List ℕ) (config : FormatConfig) (k : ℕ) (ys : List ℕ) : Type 0 where
  pub all : (t : Tree) (p : ℕ) → read_tree (length text) tape ≡ got t p → k ≤ length ys → take k ys ≡ take k (bytes_of (all_cells config text t))

-- the layout stands in front of the space
pub record Fills (text tape : List ℕ) (config : FormatConfig) (xs ys : List ℕ) : Type 0 where
  pub all : (t : Tree) (p : ℕ) → read_tree (length text) tape ≡ got t p → ys ≡ bytes_of (format original config text t) ++ drop (length (format original config text t)) xs

-- the answer, and the space
pub record LaysOut (text tape : List ℕ) (config : FormatConfig) (xs : List ℕ) (r : Answer) (ys : List ℕ) : Type 0 where
  pub all : (t : Tree) (p : ℕ) → read_tree (length text) tape ≡ got t p
      → ◌≡◌ {A = Result} (record { answer = r; space = ys }) (laid_out (laid (format original config text t)) xs)

-- n is the count of the map's numbers
pub record MapFits (text tape : List ℕ) (n : ℕ) : Type 0 where
  pub all : (t : Tree) (p : ℕ) → read_tree (length text) tape ≡ got t p → n ≡ 2 * length (tokens t.kids)

-- the numbers are places yet: with the trimmed length and any bytes they become lines and columns
pub record Placed (text tape : List ℕ) (config : FormatConfig) (ns : List ℕ) : Type 0 where
  pub all : (t : Tree) (p : ℕ) → read_tree (length text) tape ≡ got t p → (k : ℕ) (bs : List ℕ) → spots k bs ns ≡ flat (map (entry k bs) (places_from config text format_node t (new_state, 0)))

-- the map's numbers
pub record MapFills (text tape : List ℕ) (config : FormatConfig) (ns : List ℕ) : Type 0 where
  pub all : (t : Tree) (p : ℕ) → read_tree (length text) tape ≡ got t p → ns ≡ flat (token_map original config text t)

-- the answer, the space and the map
pub record MapsOut (text tape : List ℕ) (config : FormatConfig) (xs ms : List ℕ) (r : Answer) (ys ns : List ℕ) : Type 0 where
  pub all : (t : Tree) (p : ℕ) → read_tree (length text) tape ≡ got t p
      → ◌≡◌ {A = Mapped} (record { answer = r; space = ys; map = ns }) (mapped_as (laid (format original config text t)) (flat (token_map original config text t)) xs ms)
