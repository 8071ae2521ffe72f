-- What holds of every row of table 3-7 and so of every character: the first byte is none of 80 to BF, and each later byte is one.
use Prim.Native.Nat.{ℕ, zero, suc, ◌≤◌, ◌<◌, zero-le, suc-le-suc}
use native.Mathlib.Omega.{arith}
use mathlib.Core.Path.{◌≡◌, refl, ap, ap₂}
use mathlib.Core.Bool.{Bool, true, false, cond, ◌&&◌, ◌||◌, false≢true}
use mathlib.Core.List.{List, [], ◌∷◌, ◌++◌}
use lib.ListN.{length, get_or}
use lib.Dec.{leb, ltb}
use borrow.Author.Tests.{leb-true, ltb-true}
use Rattle.std.proofs.lemmas.Bool.{and_parts, both_ways}
use Rattle.utf8.specs.Table.{Range, holds, Row, rows, fits, length_by, character_length}
use Rattle.utf8.specs.Pieces.{is_trailing, Starts}
use Rattle.utf8.proofs.Tests.{holds-in, holds-below, holds-above, holds-low, holds-high}

pub trailing : (b : ℕ) → 0x80 ≤ b → b ≤ 0xBF → is_trailing b ≡ true
unfolding is_trailing
trailing b u v = holds-in 0x80 0xBF b u v

pub trailing_below : (b : ℕ) → b < 0x80 → is_trailing b ≡ false
unfolding is_trailing
trailing_below b u = holds-below 0x80 0xBF b u

pub trailing_above : (b : ℕ) → 0xBF < b → is_trailing b ≡ false
unfolding is_trailing
trailing_above b u = holds-above 0x80 0xBF b u

-- ── tests of the table

-- each of these ranges lies in 80 to BF
abbrev laters : Row → Bool
laters [] = true
laters (r ∷ rs) = leb 0x80 r.low && leb r.high 0xBF && laters rs

-- the first range of a row is below or above that, the others lie in it
abbrev sound : Row → Bool
sound [] = false
sound (r ∷ rs) = (ltb r.high 0x80 || ltb 0xBF r.low) && laters rs

abbrev all_sound : List Row → Bool
all_sound [] = true
all_sound (row ∷ more) = sound row && all_sound more

rows-sound : all_sound rows ≡ true
rows-sound = refl

-- ── a row

inner : (r : Range) (rs : Row) (b : ℕ) → laters (r ∷ rs) ≡ true → holds r b ≡ true → is_trailing b ≡ true
inner r rs b s e =
    let both = (and_parts (leb 0x80 r.low && leb r.high 0xBF) (laters rs) s).0 in
    let u : 0x80 ≤ r.low = leb-true 0x80 r.low (and_parts (leb 0x80 r.low) (leb r.high 0xBF) both).0 in
    let v : r.high ≤ 0xBF = leb-true r.high 0xBF (and_parts (leb 0x80 r.low) (leb r.high 0xBF) both).1 in
    let l : r.low ≤ b = holds-low r b e in
    let h : b ≤ r.high = holds-high r b e in
    trailing b (omega arith) (omega arith)

rest : (r : Range) (rs : Row) → laters (r ∷ rs) ≡ true → laters rs ≡ true
rest r rs s = (and_parts (leb 0x80 r.low && leb r.high 0xBF) (laters rs) s).1

outer : (r : Range) (b : ℕ) → ltb r.high 0x80 || ltb 0xBF r.low ≡ true → holds r b ≡ true → is_trailing b ≡ false
outer r b s e = go (ltb r.high 0x80) refl s (holds-low r b e) (holds-high r b e)
  where
    go : (t : Bool) → ltb r.high 0x80 ≡ t → t || ltb 0xBF r.low ≡ true → r.low ≤ b → b ≤ r.high → is_trailing b ≡ false
    go true w s l h = let u = ltb-true r.high 0x80 w in trailing_below b (omega arith)
    go false w s l h = let u = ltb-true 0xBF r.low s in trailing_above b (omega arith)

none : (r : Range) (rs : Row) (b : ℕ) → laters (r ∷ rs) ≡ true → is_trailing b ≡ false → holds r b ≡ false
none r rs b s n = go (holds r b) refl
  where
    go : (t : Bool) → holds r b ≡ t → holds r b ≡ false
    go true w = absurd (both_ways _ n (inner r rs b s w))
    go false w = w

fits-append : (rs : Row) → laters rs ≡ true → (xs ys : List ℕ) → Starts ys → fits rs (xs ++ ys) ≡ fits rs xs
fits-append [] s xs ys n = refl
fits-append (r ∷ rs) s [] [] n = refl
fits-append (r ∷ rs) s [] (y ∷ ys) n = rw (none r rs y s n)
fits-append (r ∷ rs) s (x ∷ xs) ys n = ap (λ t. holds r x && t) (fits-append rs (rest r rs s) xs ys n)

fits-inner : (rs : Row) → laters rs ≡ true → (xs : List ℕ) → fits rs xs ≡ true → (k : ℕ) → k < length rs → is_trailing (get_or xs k 0) ≡ true
fits-inner [] s xs e k h = absurd (omega arith)
fits-inner (r ∷ rs) s [] e k h = absurd (false≢true e)
fits-inner (r ∷ rs) s (x ∷ xs) e zero h = inner r rs x s (and_parts (holds r x) (fits rs xs) e).0
fits-inner (r ∷ rs) s (x ∷ xs) e (suc k) h = fits-inner rs (rest r rs s) xs (and_parts (holds r x) (fits rs xs) e).1 k (omega arith)

fits-length : (rs : Row) (xs : List ℕ) → fits rs xs ≡ true → length rs ≤ length xs
fits-length [] xs e = zero-le
fits-length (r ∷ rs) [] e = absurd (false≢true e)
fits-length (r ∷ rs) (x ∷ xs) e = suc-le-suc (fits-length rs xs (and_parts (holds r x) (fits rs xs) e).1)

-- ── the table

-- what is known of the n bytes of a character
pub record Shape (xs : List ℕ) (n : ℕ) : Type 0 where
  pub within : n ≤ length xs
  pub head : 0 < n → is_trailing (get_or xs 0 0) ≡ false
  pub tail : (k : ℕ) → suc k < n → is_trailing (get_or xs (suc k) 0) ≡ true

shape_row : (row : Row) → sound row ≡ true → (xs : List ℕ) → fits row xs ≡ true → Shape xs (length row)
shape_row [] s xs e = absurd (false≢true s)
shape_row (r ∷ rs) s [] e = absurd (false≢true e)
shape_row (r ∷ rs) s (x ∷ xs) e = record {
  within = fits-length (r ∷ rs) (x ∷ xs) e;
  head = λ h. outer r x (and_parts (ltb r.high 0x80 || ltb 0xBF r.low) (laters rs) s).0 (and_parts (holds r x) (fits rs xs) e).0;
  tail = λ k h. fits-inner rs (and_parts (ltb r.high 0x80 || ltb 0xBF r.low) (laters rs) s).1 xs (and_parts (holds r x) (fits rs xs) e).1 k (omega arith);
}

shape_by : (table : List Row) → all_sound table ≡ true → (xs : List ℕ) → Shape xs (length_by table xs)
shape_by [] s xs = record { within = zero-le; head = λ h. absurd (omega arith); tail = λ k h. absurd (omega arith) }
shape_by (row ∷ more) s xs = go (fits row xs) refl (shape_by more (and_parts (sound row) (all_sound more) s).1 xs)
  where
    go : (t : Bool) → fits row xs ≡ t → Shape xs (length_by more xs) → Shape xs (cond t (length row) (length_by more xs))
    go true w ih = shape_row row (and_parts (sound row) (all_sound more) s).0 xs w
    go false w ih = ih

pub shape : (xs : List ℕ) → Shape xs (character_length xs)
unfolding character_length
shape xs = shape_by rows rows-sound xs

append-row : (row : Row) → sound row ≡ true → (x : ℕ) (xs ys : List ℕ) → Starts ys → fits row (x ∷ (xs ++ ys)) ≡ fits row (x ∷ xs)
append-row [] s x xs ys n = refl
append-row (r ∷ rs) s x xs ys n =
    ap (λ t. holds r x && t) (fits-append rs (and_parts (ltb r.high 0x80 || ltb 0xBF r.low) (laters rs) s).1 xs ys n)

append-by : (table : List Row) → all_sound table ≡ true → (x : ℕ) (xs ys : List ℕ) → Starts ys → length_by table (x ∷ (xs ++ ys)) ≡ length_by table (x ∷ xs)
append-by [] s x xs ys n = refl
append-by (row ∷ more) s x xs ys n =
    ap₂ (λ t k. cond t (length row) k)
    (append-row row (and_parts (sound row) (all_sound more) s).0 x xs ys n)
    (append-by more (and_parts (sound row) (all_sound more) s).1 x xs ys n)

-- what follows cannot make a character longer, or complete one, unless it begins with one of 80 to BF
pub length-append_char : (x : ℕ) (xs ys : List ℕ) → Starts ys → character_length (x ∷ (xs ++ ys)) ≡ character_length (x ∷ xs)
unfolding character_length
length-append_char x xs ys n = append-by rows rows-sound x xs ys n
