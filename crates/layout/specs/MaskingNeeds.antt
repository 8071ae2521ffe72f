-- The masking rule's conditions can be met, by a pair of texts on a tape of bytes, and each is needed: for each a small pair that meets all
-- the others and breaks the claim, and one that breaks the claim about maps. Two are not needed in this layout, and `MaskedForLayout` leaves them
-- out: that a masked place lies in some token, and that it lies strictly between the first and the last character.
use Rattle.std.specs.Prelude.{ℕ, ◌≡◌, Bool, true, false, not, ◌&&◌, ◌||◌, List, [], ◌∷◌, ◌++◌, length, replicate, T, eqb}
use Rattle.keywords.specs.Words.{bytes, same}
use Rattle.context.specs.Cells.{Text}
use Rattle.tape.specs.Kinds
use Rattle.tape.specs.Tree.{Children, done, Tree}
use Rattle.tape.specs.Tape.{Read, refused, got, read_tree}
use Rattle.tape.specs.Call.{let_pass, read_call}
use Rattle.layout.specs.Layout.{original}
use Rattle.layout.specs.Outcome.{outcome}
use Rattle.layout.specs.Masking.{AlikeByLines}
use Rattle.layout.specs.MapCall.{mapped}
use Rattle.layout.specs.CourseSheet.{root, tok, nod, tape_of, is_laid_out}
use Rattle.layout.specs.MaskingTests.{Condition, same_length, no_newline, in_some_token, strictly_inside, in_quotes, not_copied, no_white_space_end, Asks, holds, holds_for_layout, alike_by_lines}

-- a pair of texts on a tape, which is called with width 4 and upper case in a space of 64 bytes, and a map space of 20 numbers
pub record Pair : Type 0 where
  pub first : Text
  pub second : Text
  pub tape : List ℕ

abbrev pub space : List ℕ
space = replicate 64 0

abbrev pub map_space : List ℕ
map_space = replicate 20 9

-- the two calls are alike, line for line
abbrev pub Claim : Pair → Type 0
Claim x = AlikeByLines x.first x.second (outcome original 4 1 x.first x.tape) (outcome original 4 1 x.second x.tape) space

abbrev pub claimed : Pair → Bool
claimed x = alike_by_lines x.first x.second (outcome original 4 1 x.first x.tape) (outcome original 4 1 x.second x.tape) space

-- the two calls give the same map, number for number
abbrev pub map_of : Text → List ℕ → List ℕ
map_of text tape = (mapped 4 1 text tape space map_space).map

abbrev pub MapClaim : Pair → Type 0
MapClaim x = map_of x.first x.tape ≡ map_of x.second x.tape

abbrev pub map_claimed : Pair → Bool
map_claimed x = same (map_of x.first x.tape) (map_of x.second x.tape)

abbrev pub conditions : List Condition
conditions = same_length ∷ no_newline ∷ in_some_token ∷ strictly_inside ∷ in_quotes ∷ not_copied ∷ no_white_space_end ∷ []

-- f holds of what was read
abbrev pub of_tree : (Tree → Bool) → Read Tree → Bool
of_tree f (refused x p) = false
of_tree f (got t p) = f t

-- each condition holds of the texts and the tree, but for those left out
abbrev pub all_hold : (Condition → Bool) → Text → Text → List Condition → Tree → Bool
all_hold left_out a b [] t = true
all_hold left_out a b (c ∷ cs) t = (left_out c || holds a b t c) && all_hold left_out a b cs t

-- ── a pair that meets all conditions

-- 4, 15 and 16 let both texts pass
abbrev pub both_pass : Pair → Bool
both_pass x = let_pass (read_call 4 1 x.first x.tape) && let_pass (read_call 4 1 x.second x.tape)

-- the call reads a tree, and all conditions hold
abbrev pub meets : Pair → Bool
meets x = both_pass x && of_tree (all_hold (λ c. false) x.first x.second conditions) (read_call 4 1 x.first x.tape)

-- a quoted name and a string below nested nodes, and a WHERE clause that is copied as typed, since it holds an Error node
unfoldable pub masked : Pair
masked =
    record {
      -- `é` U+65E5 U+1F600 `, and ' U+00FC '
      first = bytes "select `" ++ (0xC3 ∷ 0xA9 ∷ 0xE6 ∷ 0x97 ∷ 0xA5 ∷ 0xF0 ∷ 0x9F ∷ 0x98 ∷ 0x80 ∷ []) ++ bytes "`,'" ++ (0xC3 ∷ 0xBC ∷ []) ++ bytes "' where  x";
      -- ` U+1F600 U+65E5 ** `, and '**': characters of other lengths, together as many bytes
      second = bytes "select `" ++ (0xF0 ∷ 0x9F ∷ 0x98 ∷ 0x80 ∷ 0xE6 ∷ 0x97 ∷ 0xA5 ∷ 42 ∷ 42 ∷ []) ++ bytes "`,'**' where  x";
      tape =
          tape_of
          (root Kinds.File 0 32
          (nod Kinds.SelectStatement 0 32
          (nod Kinds.SelectClause 0 23
          (tok Kinds.BareWord 0 6
          (tok Kinds.Whitespace 6 7
          (nod Kinds.ColumnList 7 23
          (nod Kinds.ColumnReference 7 18 (tok Kinds.QuotedIdentifier 7 18 done)
          (tok Kinds.Comma 18 19
          (nod Kinds.ColumnReference 19 23 (tok Kinds.StringToken 19 23 done) done)))
          done)))
          (tok Kinds.Whitespace 23 24
          (nod Kinds.WhereClause 24 32 (tok Kinds.BareWord 24 29 (tok Kinds.Whitespace 29 31 (nod Kinds.Error 31 32 (tok Kinds.BareWord 31 32 done) done))) done)))
          done));
    }

-- what the layout needs is less: a masked place that lies in no token, a quoted token that ends in white space and holds none, and below a node
-- that is copied as typed another that holds a masked place
abbrev pub meets_for_layout : Pair → Bool
meets_for_layout x = both_pass x && of_tree (λ t. holds x.first x.second t same_length && holds_for_layout x.first x.second t) (read_call 4 1 x.first x.tape)

unfoldable pub masked_for_layout : Pair
masked_for_layout =
    record {
      first = bytes "eq'a''b' ";
      second = bytes "e*'*''b' ";
      tape =
          tape_of
          (root Kinds.File 0 9
          (nod Kinds.FromClause 0 1 (nod Kinds.Error 0 1 (nod Kinds.Error 2 5 done done) done)
          (nod Kinds.ColumnReference 2 5 (tok Kinds.StringToken 2 5 done)
          (nod Kinds.ColumnReference 5 9 (tok Kinds.StringToken 5 9 done) done))));
    }

-- the layouts of both texts
abbrev pub masked_layouts : Bool
masked_layouts =
    (is_laid_out
    (bytes "SELECT\n    `" ++ (0xC3 ∷ 0xA9 ∷ 0xE6 ∷ 0x97 ∷ 0xA5 ∷ 0xF0 ∷ 0x9F ∷ 0x98 ∷ 0x80 ∷ []) ++ bytes "`,\n    '" ++ (0xC3 ∷ 0xBC ∷ []) ++ bytes "'\nwhere  x\n")
    (outcome original 4 1 masked.first masked.tape)
    && is_laid_out (bytes "SELECT\n    `" ++ (0xF0 ∷ 0x9F ∷ 0x98 ∷ 0x80 ∷ 0xE6 ∷ 0x97 ∷ 0xA5 ∷ 42 ∷ 42 ∷ []) ++ bytes "`,\n    '**'\nwhere  x\n")
    (outcome original 4 1 masked.second masked.tape))
    && (is_laid_out (bytes "e\n\n'a'\n\n'b'\n") (outcome original 4 1 masked_for_layout.first masked_for_layout.tape)
    && is_laid_out (bytes "e\n\n'*'\n\n'b'\n") (outcome original 4 1 masked_for_layout.second masked_for_layout.tape))

-- the map of both texts of the first pair: the tokens below the copied WHERE clause have no place
abbrev pub masked_map : List ℕ
masked_map = 1 ∷ 1 ∷ 0 ∷ 0 ∷ 2 ∷ 5 ∷ 2 ∷ 16 ∷ 3 ∷ 5 ∷ 0 ∷ 0 ∷ 0 ∷ 0 ∷ 0 ∷ 0 ∷ 0 ∷ 0 ∷ 9 ∷ 9 ∷ []

abbrev pub masked_maps : Bool
masked_maps = same (map_of masked.first masked.tape) masked_map && same (map_of masked.second masked.tape) masked_map

-- ── pairs that meet all conditions but one

pub record Broken : Type 0 where
  pub without : Condition
  pub pair : Pair

abbrev pub number : Condition → ℕ
number same_length = 0
number no_newline = 1
number in_some_token = 2
number strictly_inside = 3
number in_quotes = 4
number not_copied = 5
number no_white_space_end = 6

-- a tree is read, every other condition holds of it, and the claim does not hold
abbrev pub needed : (Pair → Bool) → Broken → Bool
needed claim x =
    of_tree (all_hold (λ c. eqb (number c) (number x.without)) x.pair.first x.pair.second conditions) (read_tree (length x.pair.first) x.pair.tape)
    && (both_pass x.pair && not (claim x.pair))

abbrev pub all_needed : (Pair → Bool) → List Broken → Bool
all_needed claim [] = true
all_needed claim (x ∷ xs) = needed claim x && all_needed claim xs

abbrev pub pair : Condition → List ℕ → List ℕ → ℕ → Children → Broken
pair c first second kind kids = record { without = c; pair = record { first = first; second = second; tape = tape_of (root kind 0 2 kids) } }

-- a byte 0 more, which the token holds
abbrev pub byte_more : Broken
byte_more = pair same_length (39 ∷ 97 ∷ 39 ∷ 0 ∷ []) (bytes "'a'") Kinds.ColumnReference (tok Kinds.StringToken 0 4 done)

unfoldable pub pairs : List Broken
pairs =
    byte_more
    -- a line more
    ∷ pair no_newline (bytes "'\n'") (bytes "'a'") Kinds.ColumnReference (tok Kinds.StringToken 0 3 done)
    -- a keyword, and none
    ∷ pair in_quotes (bytes "set") (bytes "sat") Kinds.ColumnReference (tok Kinds.BareWord 0 3 done)
    -- an Error node that ends within a quoted token
    ∷ pair not_copied (bytes "'a'") (bytes "' '") Kinds.Error (tok Kinds.StringToken 0 3 done)
    ∷ pair no_white_space_end (bytes "ab ") (bytes "a  ") Kinds.ColumnReference (tok Kinds.StringToken 0 3 done)
    ∷ []

-- those whose maps differ
unfoldable pub map_pairs : List Broken
map_pairs =
    byte_more
    -- a line more before the second token
    ∷ pair no_newline (bytes "'\n'1") (bytes "'a'1") Kinds.TupleExpression (tok Kinds.StringToken 0 3 (tok Kinds.Number 3 4 done))
    -- END begins a line, another word does not
    ∷ pair in_quotes (bytes "caseend") (bytes "caseeed") Kinds.CaseExpression (tok Kinds.BareWord 0 4 (tok Kinds.BareWord 4 7 done))
    -- an Error node within a quoted token copies a letter, which keeps the blank before it, or another blank
    ∷ pair not_copied (bytes " 'a'") (bytes " ' '") Kinds.QueryList (tok Kinds.Number 0 1 (nod Kinds.Error 2 3 (tok Kinds.StringToken 1 4 done) done))
    -- a token of three blanks loses all its bytes
    ∷ pair no_white_space_end (bytes " b ") (bytes "   ") Kinds.ColumnReference (tok Kinds.StringToken 0 3 done)
    ∷ []

-- that 4 and 15 let both texts pass is needed: pairs of which one refuses a text, where all else holds. That 16 does follows from the others: it looks at
-- words outside quotes, and a byte that differs there breaks `in_quotes`
unfoldable pub refused_by_four : Pair
refused_by_four = record { first = 39 ∷ 200 ∷ 39 ∷ []; second = bytes "'a'"; tape = tape_of (root Kinds.ColumnReference 0 2 (tok Kinds.StringToken 0 3 done)) }

-- a node begins within the quotes: at a character in one text, inside one in the other
unfoldable pub refused_by_fifteen : Pair
refused_by_fifteen =
    record {
      first = bytes "'ab'";
      second = 39 ∷ 195 ∷ 169 ∷ 39 ∷ [];
      tape = tape_of (root Kinds.ColumnReference 0 2 (tok Kinds.StringToken 0 4 (nod Kinds.ColumnReference 2 2 done done)));
    }

abbrev pub pass_needed : (Pair → Bool) → Pair → Bool
pass_needed claim x = of_tree (all_hold (λ c. false) x.first x.second conditions) (read_tree (length x.first) x.tape) && not (claim x)

-- what the table says of a pair, in the rule's own words
pub record Needed (Claimed : Pair → Type 0) (x : Broken) : Type 0 where
  pub tree : Tree
  pub place : ℕ
  pub read : read_tree (length x.pair.first) x.pair.tape ≡ got tree place
  pub passes : T (both_pass x.pair)
  pub others : (c : Condition) → (number c ≡ number x.without → ⊥) → Asks c x.pair.first x.pair.second tree
  pub broken : Claimed x.pair → ⊥

abbrev pub EachNeeded : (Pair → Type 0) → List Broken → Type 0
EachNeeded Claimed [] = Unit {0}
EachNeeded Claimed (x ∷ xs) = Needed Claimed x × EachNeeded Claimed xs
