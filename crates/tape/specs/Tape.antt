-- The tape: what each command is, which refusal it meets, and the tree that a tape holds.
use Rattle.std.specs.Prelude.{ℕ, zero, suc, ◌+◌, ◌*◌, ◌≤◌, ◌≡◌, Bool, true, false, cond, not, ◌&&◌, ◌||◌, List, length, take, get_or, leb, ltb, eqb, Result, Ok, Err}
use Rattle.basics.specs.Bytes.{token_text}
use Rattle.utf8.specs.Table.{is_ascii}
use Rattle.utf8.specs.Pieces.{pieces, WellFormed, inside}
use Rattle.tape.specs.declared.Head.{Head}
use Rattle.tape.specs.declared.Fault.{Fault}
use Rattle.tape.specs.declared.Fault.TheVariants.{UnknownCommand, CutCommand, UnknownKind, KindNotCarried, SpanOutside, TooDeep, NotOneRoot, InsideCharacter, WordNotAscii}
use Rattle.tape.specs.declared.Refusal.{Refusal}
use Rattle.tape.specs.Kinds.{not_carried, BareWord, ErrorMaxQuerySizeExceeded}
use Rattle.tape.specs.Tree.{Children, done, token, node, Tree}

-- the number of two, of four bytes at a place, low byte first
abbrev pub u16_at : List ℕ → ℕ → ℕ
u16_at bytes p = get_or bytes p 0 + 256 * get_or bytes (p + 1) 0

abbrev pub u32_at : List ℕ → ℕ → ℕ
u32_at bytes p = u16_at bytes p + 65536 * u16_at bytes (p + 2)

-- the operands of the open or the token at p
unfoldable pub head_at : List ℕ → ℕ → Head
head_at tape p = record { kind = u16_at tape (p + 1); start = u32_at tape (p + 3); end = u32_at tape (p + 7); at = p }

-- a command, a faulty one, or the tape's end
pub data Command : Type 0 where
  ends : Command
  faulty : Fault → Command
  opens : Command
  is_token : Command
  closes : Command

-- 6 and 7: the command at p by its byte and its length alone; 01 and 02 take 11 bytes, 03 takes one
abbrev pub whole : List ℕ → ℕ → Command → Command
whole tape p x = cond (ltb (length tape) (p + 11)) (faulty CutCommand) x

unfoldable pub command_at : List ℕ → ℕ → Command
command_at tape p =
    let c = get_or tape p 0 in
    cond (leb (length tape) p) ends
    (cond (eqb c 1) (whole tape p opens)
    (cond (eqb c 2) (whole tape p is_token)
    (cond (eqb c 3) closes (faulty UnknownCommand))))

-- what the tests of a span ask of the text: its length for 10; whether the span starts or ends inside a character for 15; whether it
-- holds a byte above 127 for 16
pub record SpanTests : Type 0 where
  pub length : ℕ
  pub inside_character : Head → Bool
  pub not_ascii : Head → Bool

abbrev pub tests_of : List ℕ → SpanTests
tests_of text =
    record {
      length = length text;
      inside_character = λ h. inside h.start (pieces text) || inside h.end (pieces text);
      not_ascii = λ h. not (is_ascii (token_text text h.start h.end));
    }

-- by the text's length alone: neither 15 nor 16 is looked for
abbrev pub length_alone : ℕ → SpanTests
length_alone len = record { length = len; inside_character = λ h. false; not_ascii = λ h. false }

-- what the tests find where there is no fault
abbrev pub no_fault : Result (Unit {0}) Fault
no_fault = Ok tt

-- 8, 9, 10, 15 and 11 for the open of a node, with depth nodes open before it
unfoldable pub check_open : SpanTests → ℕ → Head → Result (Unit {0}) Fault
check_open tests depth h =
    cond (ltb ErrorMaxQuerySizeExceeded h.kind) (Err UnknownKind)
    (cond (not_carried h.kind) (Err KindNotCarried)
    (cond (leb h.start h.end && ltb tests.length h.end) (Err SpanOutside)
    (cond (leb h.start h.end && tests.inside_character h) (Err InsideCharacter)
    (cond (leb 64 depth) (Err TooDeep) no_fault))))

-- 8, 10, 15 and 16 for a token
unfoldable pub check_token : SpanTests → Head → Result (Unit {0}) Fault
check_token tests h =
    cond (ltb ErrorMaxQuerySizeExceeded h.kind) (Err UnknownKind)
    (cond (ltb h.end h.start || ltb tests.length h.end) (Err SpanOutside)
    (cond (tests.inside_character h) (Err InsideCharacter)
    (cond (eqb h.kind BareWord && tests.not_ascii h) (Err WordNotAscii) no_fault)))

-- so many bytes at the text's start are ASCII
pub record AsciiStart (text : List ℕ) (n : ℕ) : Type 0 where
  pub within : n ≤ length text
  pub ascii : is_ascii (take n text) ≡ true

-- what is known of the text when its tape is read
pub record KnownText (text : List ℕ) (n : ℕ) : Type 0 where
  pub well_formed : WellFormed text
  pub start : AsciiStart text n

-- what reading comes to: a refusal and its place; or a value and the place after it
pub data Read (A : Type 0) : Type 0 where
  refused : Fault → ℕ → Read A
  got : A → ℕ → Read A

abbrev pub and_then : {A B : Type 0} → Read A → (A → ℕ → Read B) → Read B
and_then (refused f p) k = refused f p
and_then (got a p) k = k a p

-- what the children from p on are, by the command there, and by what an open and a token lead to
abbrev pub by_command : List ℕ → Command → ℕ → (Head → Read Children) → (Head → Read Children) → Read Children
by_command tape ends p o t = refused NotOneRoot (length tape)
by_command tape (faulty f) p o t = refused f p
by_command tape opens p o t = o (head_at tape p)
by_command tape is_token p o t = t (head_at tape p)
by_command tape closes p o t = got done (p + 1)

-- what the tree is, by the first command
abbrev pub by_root : List ℕ → Command → (Head → Read Tree) → Read Tree
by_root tape ends o = refused NotOneRoot (length tape)
by_root tape (faulty f) o = refused f 0
by_root tape opens o = o (head_at tape 0)
by_root tape is_token o = refused NotOneRoot 0
by_root tape closes o = refused NotOneRoot 0

-- nothing may follow the root's close, which ends at p
abbrev pub by_end : Command → Tree → ℕ → Read Tree
by_end ends t p = got t p
by_end (faulty f) t p = refused f p
by_end opens t p = refused NotOneRoot p
by_end is_token t p = refused NotOneRoot p
by_end closes t p = refused NotOneRoot p

abbrev pub by_finding : Result (Unit {0}) Fault → Command → Command
by_finding (Ok u) x = x
by_finding (Err f) x = faulty f

module _ (tests : SpanTests) (tape : List ℕ) where
  -- after 6 and 7 comes 12, a token or a close with no node open, then the tests of the operands
  abbrev pub checked : ℕ → ℕ → Command → Command
  checked depth p ends = ends
  checked depth p (faulty f) = faulty f
  checked depth p opens = by_finding (check_open tests depth (head_at tape p)) opens
  checked depth p is_token = cond (eqb depth 0) (faulty NotOneRoot) (by_finding (check_token tests (head_at tape p)) is_token)
  checked depth p closes = cond (eqb depth 0) (faulty NotOneRoot) closes

  -- the command at p with depth nodes open
  unfoldable pub checked_at : ℕ → ℕ → Command
  checked_at depth p = checked depth p (command_at tape p)

  -- the children from p on, up to and with the close of their node; the first argument bounds the commands read, and the tape's length is enough
  unfoldable pub read_children : ℕ → ℕ → ℕ → Read Children
  read_children zero depth p = refused NotOneRoot (length tape)
  read_children (suc n) depth p =
      by_command tape (checked_at depth p) p
      (λ h. and_then (read_children n (suc depth) (p + 11)) (λ kids q. and_then (read_children n depth q) (λ rest r. got (node h kids rest) r)))
      (λ h. and_then (read_children n depth (p + 11)) (λ rest r. got (token h rest) r))

  -- 6 to 12, 15 and 16: the tree that the tape holds, or the first faulty command
  unfoldable pub read_tape : Read Tree
  read_tape =
      by_root tape (checked_at 0 0)
      (λ h. and_then (read_children (length tape) 1 11) (λ kids p. by_end (command_at tape p) (record { head = h; kids = kids }) p))

-- the same by the text's length alone: what it is wherever neither 15 nor 16 refuses
unfoldable pub read_tree : ℕ → List ℕ → Read Tree
read_tree len tape = read_tape (length_alone len) tape

-- what a check answers of a reading
abbrev pub verdict : Read Tree → Result (Unit {0}) Refusal
verdict (refused f p) = Err (record { fault = f; at = p })
verdict (got t p) = Ok tt
