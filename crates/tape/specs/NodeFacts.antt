-- What the check notes of each node for those that walk the tape: a byte for each, at the place of its open divided by 11. Opens are at least
-- 11 bytes apart, so no two nodes share one.
use Rattle.std.specs.Prelude.{ℕ, ◌*◌, ◌/◌, ◌%◌, ◌≡◌, Bool, cond, ◌||◌, List, [], ◌∷◌, get_or, set, eqb, Option, Some, None}
use Rattle.std.specs.Int.Bits.{bit_and, bit_or}
use Rattle.basics.specs.Match.{match}
use Rattle.tape.specs.declared.Head.{Head}
use Rattle.tape.specs.Kinds.{Error, GroupByList, OrderByList}
use Rattle.tape.specs.Tree.{Children, Tree, has_child, has_error_child, several_list_items, EachNode}
use Rattle.tape.specs.Tape.{Read, refused, got}

-- the byte of the node that opens at p
abbrev pub facts_at : List ℕ → ℕ → ℕ
facts_at facts p = get_or facts (p / 11) 0

-- 1: the node is an Error node, or has one as child
abbrev pub notes_error : ℕ → Bool
notes_error f = eqb (f % 2) 1

-- 2: it has a node as child; 4: it has more than one
abbrev pub notes_several : ℕ → Bool
notes_several f = eqb (f / 4 % 2) 1

-- 8: it has a GroupByList as child; 16: it has an OrderByList
abbrev pub notes_list : ℕ → ℕ → Bool
notes_list list f = eqb (f / cond (eqb list GroupByList) 8 16 % 2) 1

-- that is true of a node of the kind with these children
pub record NodeFacts (f kind : ℕ) (kids : Children) : Type 0 where
  pub error : notes_error f ≡ (eqb kind Error || has_error_child kids)
  pub several : notes_several f ≡ several_list_items kids
  pub group_by_list : notes_list GroupByList f ≡ has_child GroupByList kids
  pub order_by_list : notes_list OrderByList f ≡ has_child OrderByList kids

-- of a node, and of every node of a tree
module _ (facts : List ℕ) where
  abbrev pub NotedNode : Head → Children → Type 0
  NotedNode h kids = NodeFacts (facts_at facts h.at) h.kind kids

  abbrev pub Noted : Tree → Type 0
  Noted t = NotedNode t.head t.kids × EachNode NotedNode t.kids

-- what is noted of a reading
abbrev pub NotedOf : Read Tree → List ℕ → Type 0
NotedOf (refused f p) facts = Unit {0}
NotedOf (got t p) facts = Noted facts t

-- the byte of a node of the kind before its children
abbrev pub opened : ℕ → ℕ
opened k = cond (eqb k Error) 1 0

-- what a child of the kind adds, and the byte after one more child: where a node was among them, there are more than one now
abbrev pub child_bits : ℕ → ℕ
child_bits k = match k ((Error, 3) ∷ (GroupByList, 10) ∷ (OrderByList, 18) ∷ []) 2

abbrev pub with_child : ℕ → ℕ → ℕ
with_child f k = bit_or (bit_or f (child_bits k)) (bit_and f 2 * 2)

-- the innermost of the open nodes, which are the first to the last from the inside out
abbrev pub innermost : List ℕ → Option ℕ
innermost [] = None
innermost (i ∷ is) = Some i

-- the facts where a node of the kind opens, whose byte is at i: its own byte, and one more child in that of the node around it, if there is one
abbrev pub noted_open : Option ℕ → ℕ → ℕ → List ℕ → List ℕ
noted_open None i k fs = set fs i (opened k)
noted_open (Some q) i k fs = set (set fs q (with_child (get_or fs q 0) k)) i (opened k)
