-- Document 01: a byte with an origin equals the text's byte there, save for the case of a letter.
use Rattle.std.specs.Prelude.{◌≡◌, List, [], ◌∷◌, get_or}
use Rattle.basics.specs.Case.{to_lowercase}
use Rattle.context.specs.Cells.{Text, Origin, made, from, Cell}

abbrev pub ComesFrom : Text → Cell → Origin → Type 0
ComesFrom t c made = Unit {0}
ComesFrom t c (from p) = to_lowercase c.byte ≡ to_lowercase (get_or t p 0)

abbrev pub AllComeFrom : Text → List Cell → Type 0
AllComeFrom t [] = Unit {0}
AllComeFrom t (c ∷ cs) = ComesFrom t c c.origin × AllComeFrom t cs
