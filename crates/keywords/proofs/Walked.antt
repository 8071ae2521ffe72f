-- Worked inputs of the walk: lengths that agree with the bytes and that don't, bytes that are no capitals, and an entry that stands in a list twice.
use mathlib.Core.Path.{◌≡◌, refl}
use mathlib.Core.List.{[], ◌∷◌}
use Rattle.keywords.specs.Names.{names}
use Rattle.keywords.specs.Words.{bytes, place_of, same, words}
use Rattle.keywords.specs.Walk.{first_equal}
use Rattle.std.specs.Prelude.{Some, None}

-- the length says how many of the bytes count
entries-walked : (first_equal 6 (bytes "SELECT") words ≡ Some 0) × (first_equal 2 (bytes "INTO") words ≡ Some 14) × (first_equal 4 (bytes "INTO") words ≡ Some 57)
unfolding names words same place_of
entries-walked = (refl, refl, refl)

last_walked : first_equal 5 (bytes "KEYED") words ≡ Some 216
unfolding names words same place_of
last_walked = refl

-- small letters, a prefix, fewer bytes than the length says, more bytes than an entry has, none
others-walked :
    (first_equal 6 (bytes "select") words ≡ None) × (first_equal 3 (bytes "SELECT") words ≡ None) × (first_equal 7 (bytes "SELECT") words ≡ None)
    × (first_equal 13 (bytes "MATERIALIZEDS") words ≡ None) × (first_equal 0 (bytes "SELECT") words ≡ None)
unfolding names words same place_of
others-walked = (refl, refl, refl, refl, refl)

-- the first of two
twice_walked : first_equal 1 (bytes "B") (bytes "A" ∷ bytes "B" ∷ bytes "B" ∷ []) ≡ Some 1
unfolding same place_of
twice_walked = refl
