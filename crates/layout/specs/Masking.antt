-- The masking rule, demand 3 as request E1 words it: what it asks of two texts and a tree, and what it says of two calls. A place is an offset in
-- the text.
use Rattle.std.specs.Prelude.{ℕ, suc, ◌+◌, ◌-◌, ◌≤◌, ◌<◌, ◌≡◌, Bool, true, false, ◌||◌, List, [], ◌∷◌, ◌++◌, length, get_or, drop, T, eqb, leb}
use Rattle.utf8.specs.Table.{is_ascii}
use Rattle.utf8.specs.Trimming.{is_white_byte}
use Rattle.utf8.specs.Pieces.{Piece, pieces}
use Rattle.utf8.specs.Pieces as utf8
use Rattle.utf8.specs.WhiteSpace.{is_white_space}
use Rattle.context.specs.Cells.{Text, Cell, fixed, token_text}
use Rattle.context.specs.Alike.{Like}
use Rattle.tape.specs.declared.Head.{Head}
use Rattle.tape.specs.Kinds.{StringToken, QuotedIdentifier}
use Rattle.tape.specs.Tree.{Children, done, token, node, Tree, copied, EachToken, EachNode}
use Rattle.tape.specs.Tape.{got}
use Rattle.tape.specs.Call.{let_pass, read_call}
use Rattle.layout.specs.Outcome.{Outcome, refusal, laid, laid_out}

-- ── tokens and nodes of the tree, written or not (`EachToken`, `EachNode` of tape)

-- P holds of some token
pub data SomeToken (P : Head → Type 0) : Children → Type 0 where
  here : {h : Head} {rest : Children} → P h → SomeToken P (token h rest)
  after_token : {h : Head} {rest : Children} → SomeToken P rest → SomeToken P (token h rest)
  within : {h : Head} {kids rest : Children} → SomeToken P kids → SomeToken P (node h kids rest)
  after_node : {h : Head} {kids rest : Children} → SomeToken P rest → SomeToken P (node h kids rest)

-- P holds of each node copied as typed
abbrev pub EachCopied : (Head → Type 0) → Tree → Type 0
EachCopied P t = (T (copied t.head.kind t.kids) → P t.head) × EachNode (λ h kids. T (copied h.kind kids) → P h) t.kids

-- P holds of each node that the layout copies: what lies below such a node is not reached
abbrev pub OfCopied : Bool → Type 0 → Type 0 → Type 0
OfCopied true A B = A
OfCopied false A B = B

abbrev pub EachReachedBelow : (Head → Type 0) → Children → Type 0
EachReachedBelow P done = Unit {0}
EachReachedBelow P (token h rest) = EachReachedBelow P rest
EachReachedBelow P (node h kids rest) = OfCopied (copied h.kind kids) (P h) (EachReachedBelow P kids) × EachReachedBelow P rest

abbrev pub EachReachedCopy : (Head → Type 0) → Tree → Type 0
EachReachedCopy P t = OfCopied (copied t.head.kind t.kids) (P t.head) (EachReachedBelow P t.kids)

-- ── places

-- quoted: of kind StringToken or QuotedIdentifier
abbrev pub quoted : Head → Bool
quoted h = eqb h.kind StringToken || eqb h.kind QuotedIdentifier

-- the token or node holds the place
abbrev pub Holds : ℕ → Head → Type 0
Holds p h = (h.start ≤ p) × (p < h.end)

-- the characters of a token's text
abbrev pub characters_of : Text → Head → List Piece
characters_of t h = pieces (token_text t h.start h.end)

abbrev pub first_length : List Piece → ℕ
first_length [] = 0
first_length (c ∷ cs) = length (utf8.bytes_of c)

abbrev pub last_length : List Piece → ℕ
last_length [] = 0
last_length (c ∷ []) = length (utf8.bytes_of c)
last_length (c ∷ d ∷ cs) = last_length (d ∷ cs)

abbrev pub last_is_white : List Piece → Bool
last_is_white [] = false
last_is_white (c ∷ []) = is_white_space c
last_is_white (c ∷ d ∷ cs) = last_is_white (d ∷ cs)

-- strictly between the first and the last character of the token. This layout does not need it
abbrev pub StrictlyInside : Text → ℕ → Head → Type 0
StrictlyInside t p h = (h.start + first_length (characters_of t h) ≤ p) × (p + last_length (characters_of t h) < h.end)

-- a masked place: the texts differ there
abbrev pub Differ : Text → Text → ℕ → Type 0
Differ a b p = get_or a p 0 ≡ get_or b p 0 → ⊥

-- the last character is white space; an empty token doesn't end in it
abbrev pub EndsInWhiteSpace : Text → Head → Type 0
EndsInWhiteSpace t h = T (last_is_white (characters_of t h))

-- ── what the rule asks of a tree

-- each masked place holds a newline in neither text, lies in some token, in both texts strictly between the first and the last character of each
-- token that holds it, all of them quoted, and in no node copied as typed; the last character of such a token is white space in neither text
pub record Masked (a b : Text) (t : Tree) : Type 0 where
  pub no_newline : (p : ℕ) → Differ a b p → (get_or a p 0 ≡ 10 → ⊥) × (get_or b p 0 ≡ 10 → ⊥)
  pub in_some_token : (p : ℕ) → Differ a b p → SomeToken (Holds p) t.kids
  pub strictly_inside : (p : ℕ) → Differ a b p → EachToken (λ h. Holds p h → StrictlyInside a p h × StrictlyInside b p h) t.kids
  pub in_quotes : (p : ℕ) → Differ a b p → EachToken (λ h. Holds p h → T (quoted h)) t.kids
  pub not_copied : (p : ℕ) → Differ a b p → EachCopied (λ h. Holds p h → ⊥) t
  pub no_white_space_end : (p : ℕ) → Differ a b p → EachToken (λ h. Holds p h → (EndsInWhiteSpace a h → ⊥) × (EndsInWhiteSpace b h → ⊥)) t.kids

-- ── what the layout needs of a tree

-- Less is enough: a masked place need not lie in some token, nor between the first and the last character, and of the nodes copied as typed only
-- those count that the layout copies
pub record MaskedForLayout (a b : Text) (t : Tree) : Type 0 where
  pub in_quotes : (p : ℕ) → Differ a b p → EachToken (λ h. Holds p h → T (quoted h)) t.kids
  pub not_copied : (p : ℕ) → Differ a b p → EachReachedCopy (λ h. Holds p h → ⊥) t
  pub no_white_space_end : (p : ℕ) → Differ a b p → EachToken (λ h. Holds p h → (EndsInWhiteSpace a h → ⊥) × (EndsInWhiteSpace b h → ⊥)) t.kids

-- ── what is asked of two texts and a tape

-- two texts of one length that 4, 15 and 16 let pass; only where 1 to 12 do not refuse is the tree asked for more
pub record TextsUnder (Rule : Text → Text → Tree → Type 0) (width case : ℕ) (a b : Text) (tape : List ℕ) : Type 0 where
  pub same_length : length a ≡ length b
  pub pass_a : let_pass (read_call width case a tape) ≡ true
  pub pass_b : let_pass (read_call width case b tape) ≡ true
  pub rule : (t : Tree) (p : ℕ) → read_call width case a tape ≡ got t p → Rule a b t

-- the rule's own words
abbrev pub MaskedPair : ℕ → ℕ → Text → Text → List ℕ → Type 0
MaskedPair = TextsUnder Masked

-- what the layout needs
abbrev pub MaskedPairForLayout : ℕ → ℕ → Text → Text → List ℕ → Type 0
MaskedPairForLayout = TextsUnder MaskedForLayout

-- ── demand 3 as document 00 words it, for ASCII texts

-- strictly inside: neither the first nor the last place that it holds
abbrev pub InsidePlaces : ℕ → Head → Type 0
InsidePlaces p h = (h.start < p) × (suc p < h.end)

-- an empty token doesn't end in white space
abbrev pub EndsInWhiteByte : Text → Head → Type 0
EndsInWhiteByte t h = (h.start < h.end) × T (is_white_byte (get_or t (h.end - 1) 0))

-- each masked place holds a newline in neither text, lies in some token, strictly inside each token that holds it, all of them quoted, and in
-- no node copied as typed; no quoted token ends in white space. That is asked of the first text: the last place of a token is not masked
pub record MaskedAscii (a b : Text) (t : Tree) : Type 0 where
  pub no_newline : (p : ℕ) → Differ a b p → (get_or a p 0 ≡ 10 → ⊥) × (get_or b p 0 ≡ 10 → ⊥)
  pub in_some_token : (p : ℕ) → Differ a b p → SomeToken (Holds p) t.kids
  pub strictly_inside : (p : ℕ) → Differ a b p → EachToken (λ h. Holds p h → InsidePlaces p h) t.kids
  pub in_quotes : (p : ℕ) → Differ a b p → EachToken (λ h. Holds p h → T (quoted h)) t.kids
  pub not_copied : (p : ℕ) → Differ a b p → EachCopied (λ h. Holds p h → ⊥) t
  pub no_white_space_end : EachToken (λ h. T (quoted h) → EndsInWhiteByte a h → ⊥) t.kids

pub record AsciiPair (width case : ℕ) (a b : Text) (tape : List ℕ) : Type 0 where
  pub same_length : length a ≡ length b
  pub ascii_a : is_ascii a ≡ true
  pub ascii_b : is_ascii b ≡ true
  pub rule : (t : Tree) (p : ℕ) → read_call width case a tape ≡ got t p → MaskedAscii a b t

-- ── what the rule says

-- the output space after a layout call, with each byte's origin: those that the call did not write have none
abbrev pub fitted_cells : Bool → List Cell → List ℕ → List Cell
fitted_cells true cs space = cs ++ fixed (drop (length cs) space)
fitted_cells false cs space = fixed space

abbrev pub cells_after : Outcome → List ℕ → List Cell
cells_after (refusal f p) space = fixed space
cells_after (laid cs) space = fitted_cells (leb (length cs) (length space)) cs space

-- newlines stand at the same places
abbrev pub SameLines : List ℕ → List ℕ → Type 0
SameLines xs ys = (i : ℕ) → eqb (get_or xs i 0) 10 ≡ eqb (get_or ys i 0) 10

-- two calls on one tape, for the texts a and b, that end in x and y; both are lent the same space, which has no byte where they measure
pub record Alike (a b : Text) (x y : Outcome) (space : List ℕ) : Type 0 where
  -- equal answers; each byte has the same origin, and is the same wherever that is none or a place where the texts agree
  pub answers : (laid_out x space).answer ≡ (laid_out y space).answer
  pub spaces : Like a b (cells_after x space) (cells_after y space)
  -- line for line, where newlines stand at the same places of both texts
  pub lines : SameLines a b → SameLines (laid_out x space).space (laid_out y space).space

-- the same under the rule's own conditions, which give the newlines of the texts: the layouts go line for line
pub record AlikeByLines (a b : Text) (x y : Outcome) (space : List ℕ) : Type 0 where
  pub alike : Alike a b x y space
  pub lines : SameLines (laid_out x space).space (laid_out y space).space
