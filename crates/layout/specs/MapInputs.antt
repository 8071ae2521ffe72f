-- Map calls computed: course sheet B with room and without, and a small input for each reading of request E3.
use Rattle.std.specs.Prelude.{ℕ, suc, Bool, true, ◌&&◌, List, [], ◌∷◌, ◌++◌, length, replicate}
use Rattle.keywords.specs.Words.{bytes, same}
use Rattle.tape.specs.Kinds
use Rattle.tape.specs.Tree.{Tree, Children, done}
use Rattle.layout.specs.Outcome.{answers}
use Rattle.layout.specs.CourseSheet.{root, tok, nod, tape_of, tree_b}
use Rattle.layout.specs.MapCall.{mapped}

-- a call with width 4 and upper case: so many bytes of space, all 7, and so many numbers of map, all 9; the answer, and both afterwards
pub record MapCall : Type 0 where
  pub text : List ℕ
  pub tree : Tree
  pub room : ℕ
  pub map_room : ℕ
  pub number : ℕ
  pub value : ℕ
  pub space : List ℕ
  pub map : List ℕ

abbrev pub rightly_mapped : MapCall → Bool
rightly_mapped c =
    let r = mapped 4 1 c.text (tape_of c.tree) (replicate c.room 7) (replicate c.map_room 9) in
    answers r.answer c.number c.value && (same r.space c.space && same r.map c.map)

abbrev pub all_rightly_mapped : List MapCall → Bool
all_rightly_mapped [] = true
all_rightly_mapped (c ∷ cs) = rightly_mapped c && all_rightly_mapped cs

-- laid out as the layout says, and these numbers; a byte and a number more than needed, which stay
abbrev pub filled : List ℕ → Tree → List ℕ → List ℕ → MapCall
filled text tree layout ns =
    let n = length layout in
    record {
      text = text;
      tree = tree;
      room = suc n;
      map_room = suc (length ns);
      number = 0;
      value = n;
      space = layout ++ (7 ∷ []);
      map = ns ++ (9 ∷ []);
    }

-- refused: both spaces stay
abbrev pub refused_with : ℕ → ℕ → List ℕ → Tree → ℕ → ℕ → MapCall
refused_with number value text tree room map_room =
    record { text = text; tree = tree; room = room; map_room = map_room; number = number; value = value; space = replicate room 7; map = replicate map_room 9 }

-- a routine that puts nothing between tokens
abbrev pub tuple : Children → Tree
tuple kids = root Kinds.TupleExpression 0 0 kids

-- a copied node with two tokens below, and a word after it
abbrev pub copied_first : Tree
copied_first =
    root Kinds.QueryList 0 0
    (nod Kinds.Error 0 3 (tok Kinds.BareWord 0 1 (nod Kinds.ColumnReference 2 3 (tok Kinds.BareWord 2 3 done) done))
    (nod Kinds.ColumnReference 3 4 (tok Kinds.BareWord 3 4 done) done))

unfoldable pub map_calls : List MapCall
map_calls =
    -- B: the words, the white space between them, the comma. An indent or a blank before a token is not its first byte
    filled (bytes "select a,b from t") tree_b (bytes "SELECT\n    a,\n    b\nFROM t\n") (1 ∷ 1 ∷ 0 ∷ 0 ∷ 2 ∷ 5 ∷ 2 ∷ 6 ∷ 3 ∷ 5 ∷ 0 ∷ 0 ∷ 4 ∷ 1 ∷ 0 ∷ 0 ∷ 4 ∷ 6 ∷ []) ∷
    -- 27 bytes of layout and 18 numbers: 17 where the layout has room, 13 where it has none, with or without room for the numbers
    refused_with 17 18 (bytes "select a,b from t") tree_b 27 17 ∷
    refused_with 13 27 (bytes "select a,b from t") tree_b 26 18 ∷
    refused_with 13 27 (bytes "select a,b from t") tree_b 26 17 ∷
    -- 10 comes before both
    refused_with 10 11 [] (tuple (tok Kinds.BareWord 0 1 done)) 2 0 ∷
    -- a Comma with empty text is written as a fixed sign, and has no place
    filled (bytes "ab")
    (root Kinds.ExpressionList 0 2
    (nod Kinds.ColumnReference 0 1 (tok Kinds.BareWord 0 1 done)
    (tok Kinds.Comma 0 0
    (nod Kinds.ColumnReference 1 2 (tok Kinds.BareWord 1 2 done) done))))
    (bytes "a, b\n") (1 ∷ 1 ∷ 0 ∷ 0 ∷ 1 ∷ 4 ∷ []) ∷
    -- a fixed sign over other text, and over a blank, has the sign's place
    filled (bytes "xyz 1") (tuple (tok Kinds.OpeningRoundBracket 0 3 (tok Kinds.ClosingRoundBracket 3 4 (tok Kinds.Number 4 5 done)))) (bytes "()1\n") (1 ∷ 1 ∷ 1 ∷ 2 ∷ 1 ∷ 3 ∷ []) ∷
    -- a token's own blank is its first byte
    filled (bytes "1 2") (tuple (tok Kinds.Number 0 1 (tok Kinds.Number 1 2 (tok Kinds.Number 2 3 done)))) (bytes "1 2\n") (1 ∷ 1 ∷ 1 ∷ 2 ∷ 1 ∷ 3 ∷ []) ∷
    -- trimming takes some of the first token's bytes, and all of the others'; the newline at the end is nobody's
    filled (bytes "1 \n ") (tuple (tok Kinds.Number 0 2 (tok Kinds.Number 2 3 (tok Kinds.Number 3 4 done)))) (bytes "1\n") (1 ∷ 1 ∷ 0 ∷ 0 ∷ 0 ∷ 0 ∷ []) ∷
    -- U+3000 is white space of three bytes
    filled (49 ∷ 0xE3 ∷ 0x80 ∷ 0x80 ∷ []) (tuple (tok Kinds.Number 0 1 (tok Kinds.Number 1 4 done))) (bytes "1\n") (1 ∷ 1 ∷ 0 ∷ 0 ∷ []) ∷
    -- columns are counted in bytes: U+00E9 has two
    filled (0xC3 ∷ 0xA9 ∷ 49 ∷ []) (tuple (tok Kinds.StringToken 0 2 (tok Kinds.Number 2 3 done))) (0xC3 ∷ 0xA9 ∷ 49 ∷ 10 ∷ []) (1 ∷ 1 ∷ 1 ∷ 3 ∷ []) ∷
    -- tokens below a copied node have no place, and count for 17; its newline counts
    filled (bytes "a\nbc") copied_first (bytes "a\nb\n\nc\n") (0 ∷ 0 ∷ 0 ∷ 0 ∷ 4 ∷ 1 ∷ []) ∷
    refused_with 17 6 (bytes "a\nbc") copied_first 7 5 ∷
    -- the root copied
    filled (bytes "ab") (root Kinds.Error 0 2 (tok Kinds.BareWord 0 1 (tok Kinds.BareWord 1 2 done))) (bytes "ab\n") (0 ∷ 0 ∷ 0 ∷ 0 ∷ []) ∷
    -- a newline in a string counts for the tokens after it
    filled (bytes "'\n\n'1") (tuple (tok Kinds.StringToken 0 4 (tok Kinds.Number 4 5 done))) (bytes "'\n\n'1\n") (1 ∷ 1 ∷ 3 ∷ 2 ∷ []) ∷
    -- 17 also where the layout needs 0 bytes
    refused_with 17 2 (bytes " ") (tuple (tok Kinds.Number 0 1 done)) 0 1 ∷
    filled (bytes " ") (tuple (tok Kinds.Number 0 1 done)) [] (0 ∷ 0 ∷ []) ∷
    -- no tokens: a map of 0 numbers is enough
    record { text = []; tree = root Kinds.File 0 0 done; room = 0; map_room = 0; number = 0; value = 0; space = []; map = [] } ∷
    []
