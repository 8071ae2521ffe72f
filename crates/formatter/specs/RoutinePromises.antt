-- What the routines and the dispatch ask and promise.
use Rattle.std.specs.Prelude.{◌≡◌, List, ◌⊎◌, ℕ, ◌+◌, ◌*◌, ◌^◌, ◌≤◌, ◌<◌, length, ⊤}
use Rattle.context.specs.Cells.{Text}
use Rattle.context.specs.Store.{Store}
use Rattle.context.specs.declared.FormatConfig.{FormatConfig}
use Rattle.context.specs.declared.FormatterContext.{FormatterContext}
use Rattle.tape.specs.Kinds.{GroupByList, OrderByList}
use Rattle.tape.specs.Tree.{Children, size, height}
use Rattle.tape.specs.Tape.{head_at}
use Rattle.tape.specs.SpelledAt.{SpelledAt}
use Rattle.tape.specs.NodeFacts.{Noted}
use Rattle.layout.specs.declared.Routine.{Routine}
use Rattle.layout.specs.declared.Routine.TheVariants.{ListClause}
use Rattle.layout.specs.Arms.{Arms}
use Rattle.layout.specs.FormatNode.{format_node}
use Rattle.layout.specs.Calls.{Call, walk, calls}
use Rattle.layout.specs.Run.{run}
use Rattle.layout.specs.TokenMap.{Seat, places, places_from}
use Rattle.token_map.specs.Notes.{note_all}
use Rattle.formatter.specs.declared.Walk.{Walk}

-- the limits that the entry tests, and room for what the check notes
pub record Sizes (source tape facts : List ℕ) (config : FormatConfig) : Type 0 where
  pub text : length source ≤ 262144
  pub tape-fits : length tape ≤ 262144
  pub facts_fit : length tape ≤ 11 * length facts
  pub width : config.indent_width ≤ 16

-- what was written up to the place i is bounded by i + n
pub record RoomAt (n i : ℕ) (c : FormatterContext) : Type 0 where
  pub level : c.state.indent_level ≤ i + n
  pub length : c.position.length ≤ 2 ^ 32 * (i + n)

-- from c at i to r at j the state grew by no more than the place, less n
pub record Grew (n i : ℕ) (c : FormatterContext) (j : ℕ) (r : FormatterContext) : Type 0 where
  pub level : r.state.indent_level + i + n ≤ c.state.indent_level + j
  pub length : r.position.length + 2 ^ 32 * (i + n) ≤ c.position.length + 2 ^ 32 * j

-- a node opens at i, the tape spells its children after it, at most so many levels deep, and the check has noted what is true of each
pub record NodeReady (source tape facts : List ℕ) (config : FormatConfig) (left i : ℕ) (c : FormatterContext) : Type 0 where
  pub sizes : Sizes source tape facts config
  pub inside : i + 11 ≤ length tape
  pub room : RoomAt 8 i c
  pub span : (head_at tape i).start ≤ (head_at tape i).end → (head_at tape i).end ≤ length source
  pub kids : Children
  pub spelled : SpelledAt (length source) tape (i + 11) kids
  pub low : height kids ≤ left
  pub noted : Noted facts (record { head = head_at tape i; kids = kids })

-- where the token map's definition begins with the children
abbrev pub seat : FormatterContext → Seat
seat c = (c.state, c.position.length)

-- for these children: the walk w ends after them, with ys it is what the calls make of c and xs, and the places ps of their tokens were noted in the map, from ms to ns
pub record WalkDone (source : Text) (config : FormatConfig) (i : ℕ) (cs : List Call) (ps : List ℕ) (c : FormatterContext) (xs ms : List ℕ) (w : Walk) (ys ns : List ℕ) (kids : Children) : Type 0 where
  pub at : w.at ≡ i + 11 + size kids
  pub did : ◌≡◌ {A = Store} (w.context, ys) (run config source cs (c, xs))
  pub notes : ns ≡ note_all ps ms

-- the lists of which the check notes whether a clause has one
abbrev pub IsList : ℕ → Type 0
IsList list = (list ≡ GroupByList) ⊎ (list ≡ OrderByList)

-- a list clause is of one of these
abbrev pub HasList : Routine → Type 0
HasList (ListClause list) = IsList list
HasList _ = ⊤

-- by a routine
pub record RoutineDone (source tape : List ℕ) (config : FormatConfig) (i : ℕ) (R : Children → Arms) (c : FormatterContext) (xs ms : List ℕ) (w : Walk) (ys ns : List ℕ) : Type 0 where
  pub forward : i < w.at
  pub inside : w.at ≤ length tape
  pub grew : Grew 8 i c w.at w.context
  pub all : (kids : Children) → SpelledAt (length source) tape (i + 11) kids
      → WalkDone source config i (walk format_node source (R kids) (R kids).begin kids) (places config source format_node (R kids) (R kids).begin kids (seat c)) c xs ms w ys ns kids

-- by the node's own routine, or copied as typed
pub record NodeDone (source tape : List ℕ) (config : FormatConfig) (i : ℕ) (c : FormatterContext) (xs ms : List ℕ) (w : Walk) (ys ns : List ℕ) : Type 0 where
  pub forward : i < w.at
  pub inside : w.at ≤ length tape
  pub grew : Grew 8 i c w.at w.context
  pub all : (kids : Children) → SpelledAt (length source) tape (i + 11) kids
      → WalkDone source config i (calls format_node source (record { head = head_at tape i; kids = kids })) (places_from config source format_node (record { head = head_at tape i; kids = kids }) (seat c)) c xs ms w ys ns kids
