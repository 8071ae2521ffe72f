-- Where the spans of a tree begin: what 15 gives of an accepted call.
use Rattle.utf8.specs.Pieces.{Starts}
use Rattle.context.specs.Cells.{Text, token_text}
use Rattle.tape.specs.Tree.{Tree, EachToken}
use Rattle.layout.specs.Masking.{EachReachedCopy}

-- each token's text, and that of each node that the layout copies, begins with nothing that a character before it could go on with
pub record SpansStart (text : Text) (t : Tree) : Type 0 where
  pub tokens : EachToken (λ h. Starts (token_text text h.start h.end)) t.kids
  pub copies : EachReachedCopy (λ h. Starts (token_text text h.start h.end)) t
