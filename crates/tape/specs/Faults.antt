-- The refusals 1 to 12, 15 and 16.
use Rattle.std.specs.Prelude.{ℕ}
use Rattle.tape.specs.declared.Fault.{Fault}
use Rattle.tape.specs.declared.Fault.TheVariants.{IndentWidth, CaseByte, TextTooLong, IllFormed, TapeTooLong, UnknownCommand, CutCommand, UnknownKind, KindNotCarried, SpanOutside, TooDeep, NotOneRoot, InsideCharacter, WordNotAscii}

-- the number that the caller is told; 13 and 14 are of the calls above
abbrev pub number : Fault → ℕ
number IndentWidth = 1
number CaseByte = 2
number TextTooLong = 3
number IllFormed = 4
number TapeTooLong = 5
number UnknownCommand = 6
number CutCommand = 7
number UnknownKind = 8
number KindNotCarried = 9
number SpanOutside = 10
number TooDeep = 11
number NotOneRoot = 12
number InsideCharacter = 15
number WordNotAscii = 16
