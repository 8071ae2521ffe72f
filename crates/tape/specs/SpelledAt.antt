-- Which tree a tape spells at a place, and what an accepted tape gives to those that walk it.
use Rattle.std.specs.Prelude.{ℕ, suc, ◌+◌, ◌≤◌, ◌<◌, ◌≡◌, true, false, List, length, get_or}
use Rattle.basics.specs.Bytes.{token_text}
use Rattle.utf8.specs.Table.{is_ascii}
use Rattle.utf8.specs.Pieces.{WellFormed, Boundary}
use Rattle.tape.specs.declared.Head.{Head}
use Rattle.tape.specs.declared.Passed.{Passed}
use Rattle.tape.specs.Kinds.{not_carried, BareWord}
use Rattle.tape.specs.Tree.{Children, done, token, node, Tree, size, height, tokens, EachToken, EachNode}
use Rattle.tape.specs.Tape.{head_at, got, read_tree}
use Rattle.tape.specs.Call.{read_call}

module _ (len : ℕ) (tape : List ℕ) where
  -- the open of the head h stands at p
  pub record OpenAt (p : ℕ) (h : Head) : Type 0 where
    pub byte : get_or tape p 0 ≡ 1
    pub head : h ≡ head_at tape p
    pub inside : p + 11 ≤ length tape
    pub kind : h.kind ≤ 257
    pub carried : not_carried h.kind ≡ false
    pub span : h.start ≤ h.end → h.end ≤ len

  -- the token of the head h stands at p
  pub record TokenAt (p : ℕ) (h : Head) : Type 0 where
    pub byte : get_or tape p 0 ≡ 2
    pub head : h ≡ head_at tape p
    pub inside : p + 11 ≤ length tape
    pub kind : h.kind ≤ 257
    pub ordered : h.start ≤ h.end
    pub within : h.end ≤ len

  pub record CloseAt (p : ℕ) : Type 0 where
    pub byte : get_or tape p 0 ≡ 3
    pub inside : p + 1 ≤ length tape

  -- the tape spells the children from p on, and then the close of their node
  unfoldable pub SpelledAt : ℕ → Children → Type 0
  SpelledAt p done = CloseAt p
  SpelledAt p (token h rest) = TokenAt p h × SpelledAt (p + 11) rest
  SpelledAt p (node h kids rest) = OpenAt p h × SpelledAt (p + 11) kids × SpelledAt (p + 11 + size kids) rest

  -- what is known of an accepted tape: its tree, which is the whole tape
  pub record AcceptedTape : Type 0 where
    pub tree : Tree
    pub read : read_tree len tape ≡ got tree (length tape)
    pub root : OpenAt 0 tree.head
    pub kids : SpelledAt 11 tree.kids
    pub whole : 11 + size tree.kids ≡ length tape
    pub depth : suc (height tree.kids) ≤ 64

-- what 10, 15 and 16 leave of the span of a token and of a node; one with its start above its end has none
module _ (text : List ℕ) where
  pub record TokenInText (h : Head) : Type 0 where
    pub ordered : h.start ≤ h.end
    pub within : h.end ≤ length text
    pub start : Boundary text h.start
    pub end : Boundary text h.end
    pub word : h.kind ≡ BareWord → is_ascii (token_text text h.start h.end) ≡ true

  pub record NodeInText (h : Head) : Type 0 where
    pub within : h.start ≤ h.end → h.end ≤ length text
    pub start : h.start ≤ h.end → Boundary text h.start
    pub end : h.start ≤ h.end → Boundary text h.end

-- what is known where nothing of 1 to 12, 15 and 16 is due
pub record AcceptedCall (width case : ℕ) (text tape : List ℕ) : Type 0 where
  pub width_fits : width ≤ 16
  pub case-fits : case ≤ 1
  pub text-fits : length text ≤ 262144
  pub well_formed : WellFormed text
  pub tape-fits : length tape ≤ 262144
  pub accepted : AcceptedTape (length text) tape
  pub read : read_call width case text tape ≡ got accepted.tree (length tape)
  pub root : NodeInText text accepted.tree.head
  pub tokens : EachToken (TokenInText text) accepted.tree.kids
  pub nodes : EachNode (λ h kids. NodeInText text h) accepted.tree.kids

-- a node opens at p, and the tape spells its children after it
pub record NodeAt (tape : List ℕ) (p : ℕ) : Type 0 where
  pub len : ℕ
  pub kids : Children
  pub inside : p + 11 ≤ length tape
  pub spelled : SpelledAt len tape (p + 11) kids

-- r is the place after the close of the node that opens at p, and the number of its tokens, those below its nodes too
pub record Skipped (tape : List ℕ) (p : ℕ) (r : Passed) : Type 0 where
  pub forward : p < r.at
  pub inside : r.at ≤ length tape
  pub past : (len : ℕ) (kids : Children) → SpelledAt len tape (p + 11) kids → r.at ≡ p + 11 + size kids
  pub counted : (len : ℕ) (kids : Children) → SpelledAt len tape (p + 11) kids → r.tokens ≡ length (tokens kids)
