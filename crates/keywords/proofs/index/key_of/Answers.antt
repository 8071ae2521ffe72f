-- `key_of` meets its contract.
use Rattle.keywords.specs.Index.{key}
use Rattle.keywords.proofs.index.key_of.Goals as goal

pub returns : goal.returns
unfolding key
returns c = simp (c.from.ensures, c.letter-4.ensures, c.letter-3.ensures, c.letter-2.ensures, c.letter.ensures)
