-- Document 01's course sheet, A to L, as one table of calls: width, case, text, tree, and the text that is laid out.
use Rattle.std.specs.Prelude.{ℕ, zero, suc, ◌/◌, ◌%◌, Bool, true, false, ◌&&◌, List, [], ◌∷◌, ◌++◌}
use Prim.Native.String.{String}
use Rattle.keywords.specs.Words.{bytes, same}
use Rattle.context.specs.Cells.{bytes_of}
use Rattle.tape.specs.Kinds
use Rattle.tape.specs.declared.Head.{Head}
use Rattle.tape.specs.Tree.{Children, done, token, node, Tree}
use Rattle.layout.specs.Layout.{original}
use Rattle.layout.specs.Outcome.{Outcome, refusal, laid, outcome}

-- ── a tree as a tape

-- n bytes of x, low byte first
abbrev pub low_bytes : ℕ → ℕ → List ℕ
low_bytes zero x = []
low_bytes (suc n) x = x % 256 ∷ low_bytes n (x / 256)

abbrev pub operands : Head → List ℕ
operands h = low_bytes 2 h.kind ++ (low_bytes 4 h.start ++ low_bytes 4 h.end)

abbrev pub children_tape : Children → List ℕ
children_tape done = 3 ∷ []
children_tape (token h rest) = 2 ∷ (operands h ++ children_tape rest)
children_tape (node h kids rest) = 1 ∷ (operands h ++ (children_tape kids ++ children_tape rest))

abbrev pub tape_of : Tree → List ℕ
tape_of t = 1 ∷ (operands t.head ++ children_tape t.kids)

-- ── trees by kind, start and end

abbrev pub head : ℕ → ℕ → ℕ → Head
head k s e = record { kind = k; start = s; end = e; at = 0 }

abbrev pub root : ℕ → ℕ → ℕ → Children → Tree
root k s e kids = record { head = head k s e; kids = kids }

abbrev pub tok : ℕ → ℕ → ℕ → Children → Children
tok k s e rest = token (head k s e) rest

abbrev pub nod : ℕ → ℕ → ℕ → Children → Children → Children
nod k s e kids rest = node (head k s e) kids rest

-- ── the sheet

pub record Sample : Type 0 where
  pub width : ℕ
  pub case : ℕ
  pub text : String
  pub tree : Tree
  pub layout : String

abbrev pub is_laid_out : List ℕ → Outcome → Bool
is_laid_out bs (refusal f p) = false
is_laid_out bs (laid cs) = same (bytes_of cs) bs

abbrev pub right : Sample → Bool
right x = is_laid_out (bytes x.layout) (outcome original x.width x.case (bytes x.text) (tape_of x.tree))

abbrev pub all_right : List Sample → Bool
all_right [] = true
all_right (x ∷ xs) = right x && all_right xs

abbrev pub tree_b : Tree
tree_b =
    root Kinds.File 0 17
    (nod Kinds.SelectStatement 0 17
    (nod Kinds.SelectClause 0 10
    (tok Kinds.BareWord 0 6
    (tok Kinds.Whitespace 6 7
    (nod Kinds.ColumnList 7 10
    (nod Kinds.ColumnReference 7 8 (tok Kinds.BareWord 7 8 done)
    (tok Kinds.Comma 8 9
    (nod Kinds.ColumnReference 9 10 (tok Kinds.BareWord 9 10 done) done)))
    done)))
    (tok Kinds.Whitespace 10 11
    (nod Kinds.FromClause 11 17
    (tok Kinds.BareWord 11 15
    (tok Kinds.Whitespace 15 16
    (nod Kinds.TableIdentifier 16 17 (tok Kinds.BareWord 16 17 done) done)))
    done)))
    done)

unfoldable pub course_sheet : List Sample
course_sheet =
    -- A: File with no child
    record { width = 4; case = 1; text = ""; tree = root Kinds.File 0 0 done; layout = "" } ∷
    -- B
    record { width = 4; case = 1; text = "select a,b from t"; tree = tree_b; layout = "SELECT\n    a,\n    b\nFROM t\n" } ∷
    -- C: B with width 0, lower case
    record { width = 0; case = 0; text = "select a,b from t"; tree = tree_b; layout = "select\na,\nb\nfrom t\n" } ∷
    -- D: root Error, start 1, end 0
    record { width = 4; case = 1; text = "a"; tree = root Kinds.Error 1 0 done; layout = "" } ∷
    -- E: FunctionCall
    record {
      width = 4;
      case = 1;
      text = "Count(*)";
      tree =
          root Kinds.FunctionCall 0 8
          (tok Kinds.BareWord 0 5 (tok Kinds.OpeningRoundBracket 5 6 (tok Kinds.Star 6 7 (tok Kinds.ClosingRoundBracket 7 8 done))));
      layout = "Count(*)\n";
    } ∷
    -- F: BinaryExpression
    record {
      width = 4;
      case = 1;
      text = "a=1";
      tree =
          root Kinds.BinaryExpression 0 3
          (nod Kinds.ColumnReference 0 1 (tok Kinds.BareWord 0 1 done) (tok Kinds.Equals 1 2 (tok Kinds.Number 2 3 done)));
      layout = "a = 1\n";
    } ∷
    -- G: UnaryExpression within UnaryExpression
    record {
      width = 4;
      case = 1;
      text = "--1";
      tree =
          root Kinds.UnaryExpression 0 3
          (tok Kinds.Minus 0 1 (nod Kinds.UnaryExpression 1 3 (tok Kinds.Minus 1 2 (tok Kinds.Number 2 3 done)) done));
      layout = "--1\n";
    } ∷
    -- H: ColumnReference
    record { width = 4; case = 1; text = "host"; tree = root Kinds.ColumnReference 0 4 (tok Kinds.BareWord 0 4 done); layout = "HOST\n" } ∷
    record { width = 4; case = 1; text = "null"; tree = root Kinds.ColumnReference 0 4 (tok Kinds.BareWord 0 4 done); layout = "null\n" } ∷
    -- I: CaseExpression
    record {
      width = 4;
      case = 1;
      text = "case when a then 1 else 2 end";
      tree =
          root Kinds.CaseExpression 0 29
          (tok Kinds.BareWord 0 4
          (nod Kinds.WhenClause 5 18
          (tok Kinds.BareWord 5 9
          (nod Kinds.ColumnReference 10 11 (tok Kinds.BareWord 10 11 done)
          (tok Kinds.BareWord 12 16 (tok Kinds.Number 17 18 done))))
          (tok Kinds.BareWord 19 23 (tok Kinds.Number 24 25 (tok Kinds.BareWord 26 29 done)))));
      layout = "CASE\n    WHEN a THEN 1\n    ELSE 2\nEND\n";
    } ∷
    -- J: SubqueryExpression
    record {
      width = 4;
      case = 1;
      text = "()";
      tree = root Kinds.SubqueryExpression 0 2 (tok Kinds.OpeningRoundBracket 0 1 (tok Kinds.ClosingRoundBracket 1 2 done));
      layout = "(\n\n)\n";
    } ∷
    -- K: TupleExpression with a comment
    record {
      width = 4;
      case = 1;
      text = "(1--x)";
      tree =
          root Kinds.TupleExpression 0 6
          (tok Kinds.OpeningRoundBracket 0 1 (tok Kinds.Number 1 2 (tok Kinds.Comment 2 5 (tok Kinds.ClosingRoundBracket 5 6 done))));
      layout = "(1--x)\n";
    } ∷
    -- L: a Semicolon under File, and under SelectStatement
    record {
      width = 4;
      case = 1;
      text = "select;";
      tree =
          root Kinds.File 0 7
          (nod Kinds.SelectStatement 0 6 (nod Kinds.SelectClause 0 6 (tok Kinds.BareWord 0 6 done) done) (tok Kinds.Semicolon 6 7 done));
      layout = "SELECT ;\n";
    } ∷
    record {
      width = 4;
      case = 1;
      text = "select;";
      tree =
          root Kinds.File 0 7
          (nod Kinds.SelectStatement 0 7 (nod Kinds.SelectClause 0 6 (tok Kinds.BareWord 0 6 done) (tok Kinds.Semicolon 6 7 done)) done);
      layout = "SELECT\n";
    } ∷
    []
