-- The limits of a whole call: what it answers at each, and one past it, in any space.
use Prim.Native.Nat.{ℕ, ◌+◌, ◌*◌, ◌≤◌, ◌<◌}
use native.Mathlib.Omega.{arith}
use mathlib.Core.Path.{◌≡◌, ap}
use mathlib.Core.List.{List, [], ◌++◌}
use lib.ListN.{length, replicate}
use lib.Dec.{T}
use borrow.Author.Tests.{le-leb}
use Rattle.context.specs.Context.{write_newline, take_pending_blank_line, trim_end, finish}
use Rattle.utf8.specs.Pieces.{cut}
use Rattle.utf8.specs.Trim.{trim}
use Rattle.utf8.specs.Trimming.{trimmed, trimmed_length}
use Rattle.tape.specs.declared.Fault.{Fault}
use Rattle.tape.specs.Faults.{number}
use Rattle.tape.specs.Tree.{Tree, has_child, count_list_items, copied}
use Rattle.tape.specs.Tape.{refused, got, head_at}
use Rattle.tape.specs.Call.{read_call}
use Rattle.tape.specs.ReadingInputs.{file, close}
use Rattle.tape.proofs.ReadingLimits.{many_words, nested, text-accepted, text-refused, tape-accepted, tape-refused, nodes-accepted, nodes-refused}
use Rattle.layout.specs.Routines.{format_file}
use Rattle.layout.specs.FormatNode.{arms_of, routines, routine_of, format_node}
use Rattle.layout.specs.Calls.{walk, calls}
use Rattle.layout.specs.Layout.{do_spacing, step, pieces, written, Version, original, pieces_of, format}
use Rattle.layout.specs.Outcome.{Outcome, laid, of_read, config_of, outcome, answer, laid_out, names_length}

-- the call answers the number and the value, and leaves any lent space as it is
abbrev pub Answered : Outcome → ℕ → ℕ → Type 0
Answered o number value = (space : List ℕ) → laid_out o space ≡ record { answer = answer number value; space = space }

-- a reading that is refused is answered so
pub refused-answered : (v : Version) (width case : ℕ) (text tape : List ℕ) {f : Fault} {p : ℕ} → read_call width case text tape ≡ refused f p
    → Answered (outcome v width case text tape) (number f) p
unfolding outcome laid_out
refused-answered v width case text tape e space = rw e

-- one that is accepted names a length
accepted-named : (v : Version) (width case : ℕ) (text tape : List ℕ) {t : Tree} {p : ℕ} → read_call width case text tape ≡ got t p
    → (space : List ℕ) → T (names_length (laid_out (outcome v width case text tape) space).answer)
unfolding outcome laid_out
accepted-named v width case text tape e space = rw e (grind arith)

empty-answered : (o : Outcome) → o ≡ laid [] → Answered o 0 0
unfolding laid_out
empty-answered o e space = rw (e, le-leb 0 (length space) (omega arith))

-- ── the text: 262,144 bytes; n blanks with a File that has no child

pub text-laid_out : (n : ℕ) → n ≤ 262144 → Answered (outcome original 4 1 (replicate n 32) (file ++ close)) 0 0
unfolding outcome original format pieces_of pieces written calls walk copied has_child head_at format_node routine_of routines arms_of format_file finish trim trim_end trimmed trimmed_length cut
text-laid_out n h = empty-answered _ (ap (λ r. of_read r (format original (config_of 4 1) (replicate n 32))) (text-accepted n h))

pub text-too_long : (n : ℕ) (tape : List ℕ) → 262144 < n → Answered (outcome original 4 1 (replicate n 32) tape) 3 0
text-too_long n tape h = refused-answered original 4 1 (replicate n 32) tape (text-refused n tape h)

-- ── the tape: 262,144 bytes; k words in three nodes, n closes

pub tape-named : (k : ℕ) → 36 + 11 * k ≤ 262144 → (space : List ℕ) → T (names_length (laid_out (outcome original 4 1 [] (many_words k)) space).answer)
tape-named k h = accepted-named original 4 1 [] (many_words k) (tape-accepted k h)

pub tape-too_long : (n : ℕ) → 262144 < n → Answered (outcome original 4 1 [] (replicate n 3)) 5 0
tape-too_long n h = refused-answered original 4 1 [] (replicate n 3) (tape-refused n h)

-- ── the open nodes: 64; one File in another

pub nodes-laid_out : Answered (outcome original 4 1 [] (nested 64)) 0 0
unfolding outcome original format pieces_of pieces written calls walk copied has_child count_list_items head_at format_node routine_of routines arms_of format_file step do_spacing take_pending_blank_line write_newline finish trim trim_end trimmed trimmed_length cut
nodes-laid_out = empty-answered _ (ap (λ r. of_read r (format original (config_of 4 1) [])) nodes-accepted)

pub nodes-too_deep : Answered (outcome original 4 1 [] (nested 65)) 11 704
nodes-too_deep = refused-answered original 4 1 [] (nested 65) nodes-refused
