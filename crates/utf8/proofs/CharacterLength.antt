-- The length of a character by its bytes.
use Prim.Native.Nat.{ℕ, zero, suc, ◌+◌, ◌-◌, ◌≤◌, ◌<◌, zero-le}
use native.Mathlib.Nat.{add-zero, le_refl}
use native.Mathlib.Omega.{arith}
use mathlib.Core.Path.{◌≡◌, refl, sym, ap, ◌∙◌}
use mathlib.Core.Bool.{Bool, true, cond, ◌&&◌, and-true, and_assoc}
use mathlib.Core.List.{List, [], ◌∷◌}
use lib.ListN.{length, take, drop, get_or, length-drop}
use lib.Seq.{take-length, drop-length, get_or-drop}
use lib.Dec.{leb, ltb}
use borrow.Author.Tests.{ltb-true}
use Rattle.std.proofs.lemmas.Bool.{and_parts}
use Rattle.std.proofs.lemmas.Bool.Decides.{nat_tests}
use Rattle.std.specs.List.{fold}
use Rattle.basics.specs.Bytes.{token_text}
use Rattle.std.specs.Prelude.{None, max}
use Rattle.utf8.specs.Table.{holds, character_length, is_ascii}
use Rattle.utf8.specs.Pieces.{first_ill_formed, is_trailing}
use Rattle.utf8.specs.Steps.{is_second}
use Rattle.utf8.proofs.Tests.{holds-in}
use Rattle.utf8.proofs.Cutting.{ill_on, ill_none}

abbrev bytes : ℕ → ℕ → ℕ → ℕ → List ℕ
bytes a b c d = a ∷ b ∷ c ∷ d ∷ []

-- four bytes are looked at; past the end 0 does for a byte, which no range but the first row's holds
four : (xs : List ℕ) → 0 < length xs → character_length xs ≡ character_length (bytes (get_or xs 0 0) (get_or xs 1 0) (get_or xs 2 0) (get_or xs 3 0))
unfolding character_length holds
four [] h = absurd (omega arith)
four (a ∷ []) h = refl
four (a ∷ b ∷ []) h = refl
four (a ∷ b ∷ c ∷ []) h = refl
four (a ∷ b ∷ c ∷ d ∷ xs) h = refl

pub four-at : (text : List ℕ) (i : ℕ) → 0 < length (drop i text)
    → character_length (drop i text) ≡ character_length (bytes (get_or text i 0) (get_or text (i + 1) 0) (get_or text (i + 2) 0) (get_or text (i + 3) 0))
four-at text i h = four (drop i text) h ∙ simp (get_or-drop, add-zero)

pub one : (a : ℕ) (xs : List ℕ) → a < 0x80 → character_length (a ∷ xs) ≡ 1
unfolding character_length
one a xs h = rw (holds-in 0x00 0x7F a zero-le (omega arith))

module _ (a b c d : ℕ) where
  none-low : 0x80 ≤ a → a < 0xC2 → character_length (bytes a b c d) ≡ 0
  unfolding character_length holds
  none-low u v = grind (arith, nat_tests)

  none-high : 0xF4 < a → character_length (bytes a b c d) ≡ 0
  unfolding character_length holds
  none-high u = grind (arith, nat_tests)

  two : 0xC2 ≤ a → a < 0xE0 → character_length (bytes a b c d) ≡ cond (is_trailing b) 2 0
  unfolding character_length is_trailing holds
  two u v = grind (arith, nat_tests)

  abbrev next : Bool
  next = is_second a b && is_trailing c

  abbrev Three : Type 0
  Three = character_length (bytes a b c d) ≡ cond next 3 0

  three_first : a ≡ 0xE0 → Three
  unfolding character_length is_second is_trailing holds
  three_first e = rw e (simp (and-true))

  three_surrogates : a ≡ 0xED → Three
  unfolding character_length is_second is_trailing holds
  three_surrogates e = rw e (simp (and-true))

  three_low : 0xE1 ≤ a → a ≤ 0xEC → Three
  unfolding character_length is_second is_trailing holds
  three_low u v = grind (arith, nat_tests)

  three_high : 0xEE ≤ a → a ≤ 0xEF → Three
  unfolding character_length is_second is_trailing holds
  three_high u v = grind (arith, nat_tests)

  three : 0xE0 ≤ a → a < 0xF0 → Three
  three u v = grind (arith, three_first, three_low, three_surrogates, three_high)

  abbrev Four : Type 0
  Four = character_length (bytes a b c d) ≡ cond (next && is_trailing d) 4 0

  four-first : a ≡ 0xF0 → Four
  unfolding character_length is_second is_trailing holds
  four-first e = rw e (simp (and-true, and_assoc))

  four-last : a ≡ 0xF4 → Four
  unfolding character_length is_second is_trailing holds
  four-last e = rw e (simp (and-true, and_assoc))

  four-between : 0xF1 ≤ a → a ≤ 0xF3 → Four
  unfolding character_length is_second is_trailing holds
  four-between u v = grind (arith, nat_tests)

  fourth : 0xF0 ≤ a → a ≤ 0xF4 → Four
  fourth u v = grind (arith, four-first, four-between, four-last)

-- ── the length by the first byte, and by tests of the others

abbrev pub by_first : ℕ → Bool → Bool → Bool → ℕ
by_first a two three four =
    cond (ltb a 0x80) 1
    (cond (ltb a 0xC2) 0
    (cond (ltb a 0xE0) (cond two 2 0)
    (cond (ltb a 0xF0) (cond three 3 0)
    (cond (leb a 0xF4) (cond (three && four) 4 0) 0))))

by-first : (a b c d : ℕ) → character_length (bytes a b c d) ≡ by_first a (is_trailing b) (is_second a b && is_trailing c) (is_trailing d)
by-first a b c d =
    let e = one a (b ∷ c ∷ d ∷ []) in
    grind (arith, nat_tests, e, none-low a b c d, none-high a b c d, two a b c d, three a b c d, fourth a b c d)

pub length_at : (text : List ℕ) (i : ℕ) → i < length text
    → character_length (drop i text) ≡ by_first (get_or text i 0) (is_trailing (get_or text (i + 1) 0)) (is_second (get_or text i 0) (get_or text (i + 1) 0) && is_trailing (get_or text (i + 2) 0)) (is_trailing (get_or text (i + 3) 0))
length_at text i h =
    four-at text i (simp length-drop (omega arith)) ∙ by-first (get_or text i 0) (get_or text (i + 1) 0) (get_or text (i + 2) 0) (get_or text (i + 3) 0)

-- ── ASCII

-- ASCII is passed over
pub ascii-passed : (p n : ℕ) (text : List ℕ) → n ≤ length text → is_ascii (take n text) ≡ true → first_ill_formed p text ≡ first_ill_formed (p + n) (drop n text)
ascii-passed p zero text l h = ap (λ k. first_ill_formed k text) (sym (add-zero p))
ascii-passed p (suc n) [] l h = absurd (omega arith)
ascii-passed p (suc n) (b ∷ bs) l h =
    let e = one b bs (ltb-true b 0x80 (and_parts (ltb b 0x80) (is_ascii (take n bs)) h).0) in
    let k : p + 1 + n ≡ p + suc n = omega arith in
    ill_on p (b ∷ bs) (omega arith) (λ z. omega arith)
    ∙ rw e (ascii-passed (p + 1) n bs (omega arith) (and_parts (ltb b 0x80) (is_ascii (take n bs)) h).1)
    ∙ ap (λ j. first_ill_formed j (drop n bs)) k

-- an ASCII text is well-formed
pub ascii-well : (p : ℕ) (text : List ℕ) → is_ascii text ≡ true → first_ill_formed p text ≡ None
ascii-well p text h =
    ascii-passed p (length text) text (le_refl (length text)) (ap is_ascii (take-length text) ∙ h)
    ∙ ap (first_ill_formed (p + length text)) (drop-length text)
    ∙ ill_none (p + length text)

-- each of its bytes is at most 127
pub ascii-bytes : (text : List ℕ) → is_ascii text ≡ true → (i : ℕ) → get_or text i 0 ≤ 127
ascii-bytes [] h i = omega arith
ascii-bytes (b ∷ bs) h zero = omega (arith, ltb-true b 0x80 (and_parts (ltb b 0x80) (is_ascii bs) h).0)
ascii-bytes (b ∷ bs) h (suc i) = ascii-bytes bs (and_parts (ltb b 0x80) (is_ascii bs) h).1 i

-- and each of its parts is ASCII
pub ascii_take : (n : ℕ) (text : List ℕ) → is_ascii text ≡ true → is_ascii (take n text) ≡ true
ascii_take zero text h = refl
ascii_take (suc n) [] h = refl
ascii_take (suc n) (b ∷ bs) h = rw (and_parts (ltb b 0x80) (is_ascii bs) h).0 (ascii_take n bs (and_parts (ltb b 0x80) (is_ascii bs) h).1)

ascii_drop : (n : ℕ) (text : List ℕ) → is_ascii text ≡ true → is_ascii (drop n text) ≡ true
ascii_drop zero text h = h
ascii_drop (suc n) [] h = refl
ascii_drop (suc n) (b ∷ bs) h = ascii_drop n bs (and_parts (ltb b 0x80) (is_ascii bs) h).1

pub ascii-part : (text : List ℕ) → is_ascii text ≡ true → (start end : ℕ) → is_ascii (token_text text start end) ≡ true
unfolding token_text
ascii-part text h start end = ascii_take (end - start) (drop start text) (ascii_drop start text h)

-- the highest byte decides
highest : (h b : ℕ) → ltb (max h b) 0x80 ≡ ltb h 0x80 && ltb b 0x80
highest h b = grind (arith, nat_tests)

ascii_fold : (text : List ℕ) (h : ℕ) → ltb (fold max h text) 0x80 ≡ ltb h 0x80 && is_ascii text
ascii_fold [] h = sym (and-true (ltb h 0x80))
ascii_fold (b ∷ bs) h =
    ascii_fold bs (max h b) ∙ ap (λ t. t && is_ascii bs) (highest h b) ∙ and_assoc (ltb h 0x80) (ltb b 0x80) (is_ascii bs)

pub ascii-highest : (text : List ℕ) → ltb (fold max 0 text) 0x80 ≡ is_ascii text
ascii-highest text = ascii_fold text 0
