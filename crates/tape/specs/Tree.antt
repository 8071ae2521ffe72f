-- The syntax tree: the children of a node, first to last, and a root; what the routines look ahead for.
use Rattle.std.specs.Prelude.{ℕ, suc, ◌+◌, max, Bool, false, not, ◌&&◌, ◌||◌, List, [], ◌∷◌, ◌++◌, eqb, ltb}
use Rattle.tape.specs.declared.Head.{Head}
use Rattle.tape.specs.Kinds.{Error, QueryList}

-- the children of a node: none left; a token and the rest; a node with its own children, and the rest
pub data Children : Type 0 where
  done : Children
  token : Head → Children → Children
  node : Head → Children → Children → Children

pub record Tree : Type 0 where
  pub head : Head
  pub kids : Children

-- how many bytes of tape the children take, with the close of their node
unfoldable pub size : Children → ℕ
size done = 1
size (token h rest) = 11 + size rest
size (node h kids rest) = 11 + size kids + size rest

-- how many of the nodes among them and below are open at once
unfoldable pub height : Children → ℕ
height done = 0
height (token h rest) = height rest
height (node h kids rest) = max (suc (height kids)) (height rest)

-- the tokens in order, those below the nodes too
unfoldable pub tokens : Children → List Head
tokens done = []
tokens (token h rest) = h ∷ tokens rest
tokens (node h kids rest) = tokens kids ++ tokens rest

-- some direct child is a node of the kind
unfoldable pub has_child : ℕ → Children → Bool
has_child k done = false
has_child k (token h rest) = has_child k rest
has_child k (node h kids rest) = eqb h.kind k || has_child k rest

-- some direct child is an Error node
abbrev pub has_error_child : Children → Bool
has_error_child c = has_child Error c

-- how many direct children are nodes
unfoldable pub count_list_items : Children → ℕ
count_list_items done = 0
count_list_items (token h rest) = count_list_items rest
count_list_items (node h kids rest) = suc (count_list_items rest)

-- the source asks only whether there are more than one
abbrev pub several_list_items : Children → Bool
several_list_items c = ltb 1 (count_list_items c)

-- a node of the kind with these children is copied as typed: an Error node, or one with an Error node as direct child; only QueryList goes on
unfoldable pub copied : ℕ → Children → Bool
copied k kids = eqb k Error || (not (eqb k QueryList) && has_error_child kids)

-- P holds of each token, of each node with its children, among the children and below
abbrev pub EachToken : (Head → Type 0) → Children → Type 0
EachToken P done = Unit {0}
EachToken P (token h rest) = P h × EachToken P rest
EachToken P (node h kids rest) = EachToken P kids × EachToken P rest

abbrev pub EachNode : (Head → Children → Type 0) → Children → Type 0
EachNode P done = Unit {0}
EachNode P (token h rest) = EachNode P rest
EachNode P (node h kids rest) = P h kids × EachNode P kids × EachNode P rest
