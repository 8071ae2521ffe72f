-- From what the calls promise to the demands.
use mathlib.Core.Path.{◌≡◌, sym, ap, subst, ◌∙◌}
use mathlib.Core.List.{List, ◌++◌}
use Prim.Native.Nat.{ℕ, ◌≤◌, ◌<◌}
use native.Mathlib.Omega.{arith}
use lib.ListN.{length, get_or, drop, length-map, get_or-map}
use borrow.Author.Tests.{le-leb, lt-leb}
use Rattle.std.proofs.lemmas.List.{nil_from_length}
use Rattle.basics.specs.Case.{to_lowercase}
use Rattle.context.specs.Cells.{Text, Cell, bytes_of, fresh}
use Rattle.context.specs.Alike.{Agree, Like}
use Rattle.context.proofs.AlikeWrites.{like_at}
use Rattle.tape.specs.declared.Fault.{Fault}
use Rattle.tape.specs.Tree.{Tree}
use Rattle.tape.specs.Tape.{refused, got}
use Rattle.tape.specs.Call.{read_call}
use Rattle.layout.specs.declared.Answer.{Answer}
use Rattle.layout.specs.Layout.{original, format}
use Rattle.layout.specs.Outcome.{Outcome, answer, refusal, laid, config_of, outcome, Result, laid_out}
use Rattle.layout.specs.Masking.{MaskedPair, MaskedPairForLayout, SameLines, cells_after}
use Rattle.layout.proofs.AsciiPairs.{ascii-pair}
use Rattle.layout.proofs.TwoCalls.{pair-for_layout, demand_3, cells_after_lem}
use Rattle.layout.proofs.Origins.{origins-after, comes_from}
use Rattle.two_calls.specs.Both.{LaysOutBoth}
use Rattle.acceptance.specs.Demands.{formatted, Demand1, Demand2, AlikeWhere, Demand3}

-- ── demands 1 and 2

-- what a reading comes to
module _ (width case : ℕ) (text tape : List ℕ) where
  pub was_refused : (f : Fault) (p : ℕ) → read_call width case text tape ≡ refused f p → outcome original width case text tape ≡ refusal f p
  unfolding outcome
  was_refused f p e = rw e

  pub was_laid : (t : Tree) (p : ℕ) → read_call width case text tape ≡ got t p → outcome original width case text tape ≡ laid (format original (config_of width case) text t)
  unfolding outcome
  was_laid t p e = rw e

pub as_long : (width case : ℕ) (text : Text) (t : Tree) → length (formatted width case text t) ≡ length (format original (config_of width case) text t)
as_long width case text t = length-map (format original (config_of width case) text t) (λ (c : Cell). c.byte)

module _ (width case : ℕ) (text tape before : List ℕ) (r : Answer) (after : List ℕ) (l : ◌≡◌ {A = Result} (record { answer = r; space = after }) (laid_out (outcome original width case text tape) before)) where
  abbrev call : Result
  call = record { answer = r; space = after }

  short : (t : Tree) (p : ℕ) → read_call width case text tape ≡ got t p → length before < length (formatted width case text t)
      → call ≡ record { answer = answer 13 (length (formatted width case text t)); space = before }
  unfolding laid_out
  short t p e h =
      let n = as_long width case text t in
      l ∙ rw (was_laid width case text tape t p e, n, lt-leb (length (format original (config_of width case) text t)) (length before) (omega (arith, n)))

  fits : (t : Tree) (p : ℕ) → read_call width case text tape ≡ got t p → length (formatted width case text t) ≤ length before
      → call ≡ record { answer = answer 0 (length (formatted width case text t)); space = formatted width case text t ++ drop (length (formatted width case text t)) before }
  unfolding laid_out
  fits t p e h =
      let n = as_long width case text t in
      l ∙ rw (was_laid width case text tape t p e, n, le-leb (length (format original (config_of width case) text t)) (length before) (omega (arith, n)))

  parts : {a : Answer} {s : List ℕ} → call ≡ record { answer = a; space = s } → (r ≡ a) × (after ≡ s)
  parts e = (ap (λ (z : Result). z.answer) e, ap (λ (z : Result). z.space) e)

  pub demand1 : Demand1 width case text tape before r after
  unfolding laid_out
  demand1 =
      record {
        refuses = λ f p e. parts (l ∙ rw (was_refused width case text tape f p e));
        too_short = λ t p e h. parts (short t p e h);
        accepts = λ t p e h. ap (λ (z : Result). z.answer.number) (fits t p e h);
      }

  pub demand2 : Demand2 width case text tape before r after
  demand2 = record { writes = λ t p e h. parts (fits t p e h) }

-- ── demand 3

-- a byte of the space, and its cell
byte_at : (cs : List Cell) (ys : List ℕ) → ys ≡ bytes_of cs → (i : ℕ) → get_or ys i 0 ≡ (get_or cs i (fresh 0)).byte
byte_at cs ys e i = ap (λ (z : List ℕ). get_or z i 0) e ∙ get_or-map (λ (c : Cell). c.byte) cs i (fresh 0)

-- what is the same in two spaces whose cells are alike
abbrev pub AlikeAt : Text → Text → List Cell → List Cell → List ℕ → List ℕ → ℕ → Type 0
AlikeAt a b cs ds xs ys i =
    ((get_or cs i (fresh 0)).origin ≡ (get_or ds i (fresh 0)).origin) × (Agree a b (get_or cs i (fresh 0)).origin → get_or xs i 0 ≡ get_or ys i 0)

pub alike_at : (a b : Text) (cs ds : List Cell) (xs ys : List ℕ) → xs ≡ bytes_of cs → ys ≡ bytes_of ds → Like a b cs ds → (i : ℕ) → AlikeAt a b cs ds xs ys i
alike_at a b cs ds xs ys p q h i = let k = like_at a b cs ds h i in (k.origins, λ g. byte_at cs xs p i ∙ k.bytes g ∙ sym (byte_at ds ys q i))

module _ (width case : ℕ) (a b : Text) (tape before_a before_b : List ℕ) (r : Answer × Answer) (after_a after_b : List ℕ) (lays_out : LaysOutBoth a b tape width case before_a before_b r after_a after_b) where
  abbrev x : Outcome
  x = outcome original width case a tape

  abbrev y : Outcome
  y = outcome original width case b tape

  space-a : after_a ≡ bytes_of (cells_after x before_a)
  space-a = ap (λ (z : Result). z.space) lays_out.first ∙ sym (cells_after_lem x before_a)

  space-b : after_b ≡ bytes_of (cells_after y before_b)
  space-b = ap (λ (z : Result). z.space) lays_out.second ∙ sym (cells_after_lem y before_b)

  module _ {Allowed : Type 0} (weaken : Allowed → MaskedPairForLayout width case a b tape) where
    each-alike : Allowed → before_a ≡ before_b → (i : ℕ) → AlikeAt a b (cells_after x before_a) (cells_after y before_b) after_a after_b i
    each-alike k e =
        alike_at a b (cells_after x before_a) (cells_after y before_b) after_a after_b space-a space-b
        (subst (λ (s : List ℕ). Like a b (cells_after x before_a) (cells_after y s)) e (lays_out.masked (weaken k) e).1.alike)

    alike-where : AlikeWhere width case a b tape before_a before_b r after_a after_b Allowed
    alike-where =
        record {
          measures = λ k m n. (lays_out.masked (weaken k) (nil_from_length before_a m ∙ sym (nil_from_length before_b n))).0;
          lays_out = λ k e. (lays_out.masked (weaken k) e).0;
          same_place = λ k e i. (each-alike k e i).0;
          alike = λ k e i. (each-alike k e i).1;
        }

  same_lines_lem : MaskedPair width case a b tape → before_a ≡ before_b → SameLines after_a after_b
  same_lines_lem k e =
      rw (ap (λ (z : Result). z.space) lays_out.first, ap (λ (z : Result). z.space) lays_out.second, ← e) ((demand_3 width case a b tape k before_a).lines)

  pub demand3 : Demand3 width case a b tape before_a before_b r after_a after_b
  demand3 =
      record {
        calls = record { call_a = lays_out.first; call_b = lays_out.second };
        alike = alike-where (pair-for_layout width case a b tape);
        lines = same_lines_lem;
        copied =
            λ i p e.
            ap to_lowercase (byte_at (cells_after x before_a) after_a space-a i)
            ∙ comes_from a (cells_after x before_a) (origins-after a width case tape before_a) i p e;
        ascii = alike-where (λ k. pair-for_layout width case a b tape (ascii-pair width case a b tape k));
        ascii_lines = λ k e. same_lines_lem (ascii-pair width case a b tape k) e;
        stronger = alike-where (λ k. k);
        stronger_lines = λ k e. (lays_out.masked k e).1.lines;
      }
