-- The write position and the lent output space, and what code promises of them.
use Rattle.std.specs.Prelude.{ℕ, ◌+◌, ◌*◌, ◌^◌, ◌≤◌, ◌≡◌, Bool, false, List, ◌++◌, length}
use Rattle.utf8.specs.Trimming.{trimmed_length, trimmed_after}
use Rattle.context.specs.Cells.{bytes_of}
use Rattle.context.specs.Splice.{splice}
use Rattle.context.specs.Context.{Step, new_state, after_write}
use Rattle.context.specs.declared.State.{State}
use Rattle.context.specs.declared.Position.{Position}
use Rattle.context.specs.declared.FormatterContext.{FormatterContext}

abbrev pub new : FormatterContext
new = record { state = new_state; position = record { length = 0; trimmed = 0 } }

-- the position once bs is written
unfoldable pub advanced : List ℕ → Position → Position
advanced bs p =
    record {
      length = p.length + length bs;
      trimmed = trimmed_after p.length p.trimmed (trimmed_length bs);
    }

-- the context, and the bytes of the lent space
abbrev pub Store : Type 0
Store = FormatterContext × List ℕ

-- the state s, and bs written at the position, as far as the space goes
unfoldable pub appended : State → List ℕ → Store → Store
appended s bs w = (record { state = s; position = advanced bs w.0.position }, splice w.0.position.length bs w.1)

-- a step's state, and its piece written. A store holds bytes, so the origins of the piece's cells do not show in it
abbrev pub stored : Step → Store → Store
stored r w = appended r.0 (bytes_of (r.1.lead ++ r.1.body)) w

-- another state at the same position
abbrev pub with_state : State → FormatterContext → FormatterContext
with_state s c = record { state = s; position = c.position }

-- c once so many blanks and a text of n bytes are written, j of which are left when its trailing white space is dropped
abbrev pub after_text : ℕ → ℕ → ℕ → FormatterContext → FormatterContext
after_text blanks n j c =
    let from = c.position.length + blanks in
    record {
      state = after_write false c.state;
      position = record { length = from + n; trimmed = trimmed_after from c.position.trimmed j };
    }

-- ── what the code asks and promises

-- room for n more writes or indents: no sum that they make can wrap. A write is at most 2^24 blanks and a text of 2^18 bytes
pub record Room (n : ℕ) (c : FormatterContext) : Type 0 where
  pub level : c.state.indent_level + n ≤ 2 ^ 20
  pub length : c.position.length + 2 ^ 26 * n ≤ 2 ^ 56

-- from c to r at most n writes or indents were made
pub record Spent (n : ℕ) (c r : FormatterContext) : Type 0 where
  pub level : r.state.indent_level ≤ c.state.indent_level + n
  pub length : r.position.length ≤ c.position.length + 2 ^ 26 * n

-- the context r and the space ys are the store w
pub record Wrote (n : ℕ) (w : Store) (c r : FormatterContext) (ys : List ℕ) : Type 0 where
  pub did : ◌≡◌ {A = Store} (r, ys) w
  pub spent : Spent n c r

-- only the state changed, to s
pub record Changed (n : ℕ) (s : State) (c r : FormatterContext) : Type 0 where
  pub did : r ≡ with_state s c
  pub spent : Spent n c r

-- a mark was handed out, and the state changed
pub record Took (x : Bool × State) (c : FormatterContext) (r : Bool × FormatterContext) : Type 0 where
  pub mark : r.0 ≡ x.0
  pub context : Changed 0 x.1 c r.1
