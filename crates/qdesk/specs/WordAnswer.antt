-- The three sorts of word as C sees them.
use Rattle.keywords.specs.declared.Word.{Word}
use Rattle.keywords.specs.declared.Word.TheVariants.{Plain, Value, Keyword}
use Rattle.layout.specs.declared.Answer.{Answer}

-- 0 a plain word; 1 a value word and its place in the list; 2 another keyword and its place
abbrev pub word_answer : Word → Answer
word_answer Plain = record { number = 0; value = 0 }
word_answer (Value place) = record { number = 1; value = place }
word_answer (Keyword place) = record { number = 2; value = place }
