-- The lent map while the tree is walked: two numbers for each token, of which the first takes the token's place; the last number of all is the index of
-- the next pair, since no second number is written yet.
use Rattle.std.specs.Prelude.{ℕ, ◌+◌, ◌-◌, cond, List, [], ◌∷◌, length, get_or, set, ltb}

-- a place more; where the pairs are used up, or there are none, nothing
unfoldable pub noted : ℕ → List ℕ → List ℕ
noted place m =
    let last = length m - 1 in
    let next = get_or m last 0 in
    cond (ltb next last) (set (set m next place) last (next + 2)) m

-- one after the other
unfoldable pub note_all : List ℕ → List ℕ → List ℕ
note_all [] m = m
note_all (p ∷ ps) m = note_all ps (noted p m)
