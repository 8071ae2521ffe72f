-- The library's UTF-8 and table 3-7 agree.
use Prim.Native.Nat.{ℕ, ◌+◌, ◌-◌, ◌*◌, ◌/◌, ◌≤◌, ◌<◌}
use native.Mathlib.Nat.{add-zero}
use native.Mathlib.Omega.{arith}
use mathlib.Core.Path.{◌≡◌, refl, sym, ap, subst, ◌∙◌}
use mathlib.Core.Bool.{Bool, true, false, cond, ◌&&◌}
use mathlib.Core.List.{List, [], ◌∷◌, ◌++◌, append-nil, append_assoc}
use mathlib.Core.Logic.{◌⊎◌, inl, inr, ⊎_elim}
use lib.ListN.{length, take, drop, get_or, length-append, length-drop, take-append-drop}
use lib.Seq.{length-take-le, drop-append-le, drop-length}
use lib.Dec.{eqb}
use lib.Utf8.{scalar, scalars, scalar_cases, next, encode, encodes}
use borrow.Author.Tests.{eqb-true, eqb-false}
use Rattle.std.proofs.str.Laws as laws
use Rattle.std.proofs.str.Valid as valid
use Rattle.std.specs.Prelude.{Some, None}
use Rattle.std.specs.Str.{IsUtf8, IsValidUpTo}
use Rattle.std.proofs.lemmas.Bool.{and_parts}
use Rattle.std.proofs.lemmas.Bool.Decides.{nat_tests}
use Rattle.utf8.specs.Table.{◌‥◌, holds, character_length}
use Rattle.utf8.specs.Pieces.{first_ill_formed, is_trailing}
use Rattle.utf8.specs.Steps.{second_after, is_second}
use Rattle.utf8.proofs.Tests.{holds-low, holds-high}
use Rattle.utf8.proofs.Rows.{shape, trailing}
use Rattle.utf8.proofs.Cutting.{ill_on, ill_none}
use Rattle.utf8.proofs.CharacterLength.{one, by_first, length_at}
use Rattle.utf8.proofs.Places.{ill_at}

-- ── what the library writes is a character of the table

length_of : (a : ℕ) (xs : List ℕ)
    → character_length (a ∷ xs) ≡ by_first a (is_trailing (get_or xs 0 0)) (is_second a (get_or xs 0 0) && is_trailing (get_or xs 1 0)) (is_trailing (get_or xs 2 0))
length_of a xs = length_at (a ∷ xs) 0 (omega arith)

two_bytes : (a b : ℕ) (xs : List ℕ) → 0xC2 ≤ a → a < 0xE0 → is_trailing b ≡ true → character_length (a ∷ b ∷ xs) ≡ 2
two_bytes a b xs u v t = length_of a (b ∷ xs) ∙ grind (arith, nat_tests, t)

three_bytes : (a b c : ℕ) (xs : List ℕ) → 0xE0 ≤ a → a < 0xF0 → is_second a b ≡ true → is_trailing c ≡ true → character_length (a ∷ b ∷ c ∷ xs) ≡ 3
three_bytes a b c xs u v s t = length_of a (b ∷ c ∷ xs) ∙ grind (arith, nat_tests, s, t)

four_bytes : (a b c d : ℕ) (xs : List ℕ) → 0xF0 ≤ a → a ≤ 0xF4 → is_second a b ≡ true → is_trailing c ≡ true → is_trailing d ≡ true → character_length (a ∷ b ∷ c ∷ d ∷ xs) ≡ 4
four_bytes a b c d xs u v s t w = length_of a (b ∷ c ∷ d ∷ xs) ∙ grind (arith, nat_tests, s, t, w)

trails : (n : ℕ) → is_trailing (next n) ≡ true
trails n = trailing (next n) (omega arith) (omega arith)

second_three : (c : ℕ) → 2048 ≤ c → c < 65536 → (c < 55296) ⊎ ((57344 ≤ c) × (c < 1114112)) → is_second (224 + c / 4096) (next (c / 64)) ≡ true
unfolding is_second holds
second_three c u v (inl s) = grind (arith, nat_tests)
second_three c u v (inr s) = grind (arith, nat_tests, s.0)

second_four : (c : ℕ) → 65536 ≤ c → c < 1114112 → is_second (240 + c / 262144) (next (c / 4096)) ≡ true
unfolding is_second holds
second_four c u v = grind (arith, nat_tests)

below : (c : ℕ) → (c < 55296) ⊎ ((57344 ≤ c) × (c < 1114112)) → c < 1114112
below c (inl s) = omega arith
below c (inr s) = s.1

encoded : (c : ℕ) (xs : List ℕ) → scalar c ≡ true → (0 < length (encode c)) × (character_length (encode c ++ xs) ≡ length (encode c))
encoded c xs s = by (laws.order c 128) (laws.order c 2048) (laws.order c 65536) (scalar_cases c s)
  where
    Right : List ℕ → Type 0
    Right l = (0 < length l) × (character_length (l ++ xs) ≡ length l)

    by : (c < 128) ⊎ (128 ≤ c) → (c < 2048) ⊎ (2048 ≤ c) → (c < 65536) ⊎ (65536 ≤ c) → (c < 55296) ⊎ ((57344 ≤ c) × (c < 1114112)) → Right (encode c)
    by (inl h) _ _ r = subst Right (sym (laws.one c h)) (omega arith, one c xs h)
    by (inr l) (inl h) _ r = subst Right (sym (laws.two c l h)) (omega arith, two_bytes (192 + c / 64) (next c) xs (omega arith) (omega arith) (trails c))
    by (inr _) (inr l) (inl h) r =
        subst Right (sym (laws.three c l h))
        (omega arith, three_bytes (224 + c / 4096) (next (c / 64)) (next c) xs (omega arith) (omega arith) (second_three c l h r) (trails c))
    by (inr _) (inr _) (inr l) r =
        let h = below c r in
        subst Right (sym (laws.four c l))
        (omega arith, four_bytes (240 + c / 262144) (next (c / 4096)) (next (c / 64)) (next c) xs (omega arith) (omega arith) (second_four c l h) (trails (c / 64)) (trails c))

-- ── a character of the table is one of the library's

chosen : (n k : ℕ) (t : Bool) → 0 < n → n ≡ cond t k 0 → (t ≡ true) × (n ≡ k)
chosen n k true h e = (refl, e)
chosen n k false h e = absurd (omega (arith, e))

follows : (b : ℕ) → is_trailing b ≡ true → laws.Follows b
unfolding is_trailing
follows b t = let l = holds-low (0x80 ‥ 0xBF) b t in let h = holds-high (0x80 ‥ 0xBF) b t in (l, omega (arith, h))

-- the least and the greatest second byte
record Second (a b : ℕ) : Type 0 where
  least : 0x80 ≤ b
  most : b ≤ 0xBF
  after_E0 : a ≡ 0xE0 → 0xA0 ≤ b
  after_ED : a ≡ 0xED → b ≤ 0x9F
  after_F0 : a ≡ 0xF0 → 0x90 ≤ b
  after_F4 : a ≡ 0xF4 → b ≤ 0x8F

least_after : (a : ℕ) → 0x80 ≤ (second_after a).low
least_after a = grind (arith, nat_tests)

most_after : (a : ℕ) → (second_after a).high ≤ 0xBF
most_after a = grind (arith, nat_tests)

second : (a b : ℕ) → is_second a b ≡ true → Second a b
unfolding is_second
second a b t =
    let l = holds-low (second_after a) b t in
    let h = holds-high (second_after a) b t in
    record {
      least = omega (arith, l, least_after a);
      most = omega (arith, h, most_after a);
      after_E0 = λ e. subst (λ x. (second_after x).low ≤ b) e l;
      after_ED = λ e. subst (λ x. b ≤ (second_after x).high) e h;
      after_F0 = λ e. subst (λ x. (second_after x).low ≤ b) e l;
      after_F4 = λ e. subst (λ x. b ≤ (second_after x).high) e h;
    }

high_enough : (a b : ℕ) → 0xE0 ≤ a → Second a b → 0x20 ≤ (a - 0xE0) * 64 + (b - 0x80)
high_enough a b u s = ⊎_elim (λ l. omega (arith, s.after_E0 (omega arith))) (λ l. omega arith) (laws.order a 0xE1)

no_surrogate : (a b c : ℕ) → 0xE0 ≤ a → Second a b → laws.Follows c
    → let n = (a - 0xE0) * 4096 + (b - 0x80) * 64 + (c - 0x80) in (n < 55296) ⊎ (57344 ≤ n)
no_surrogate a b c u s f =
    let most = s.most in
    ⊎_elim (λ l. inl (omega (arith, most, f.1)))
    (λ l. ⊎_elim (λ h. inl (omega (arith, f.1, s.after_ED (omega arith)))) (λ h. inr (omega arith)) (laws.order a 0xEE))
    (laws.order a 0xED)

in_planes : (a b : ℕ) → 0xF0 ≤ a → a ≤ 0xF4 → Second a b → let n = (a - 0xF0) * 64 + (b - 0x80) in (16 ≤ n) × (n < 272)
in_planes a b u v s =
    let most = s.most in
    let least = s.least in (
      ⊎_elim (λ l. omega (arith, s.after_F0 (omega arith))) (λ l. omega arith) (laws.order a 0xF1),
      ⊎_elim (λ l. omega (arith, most)) (λ l. omega (arith, s.after_F4 (omega arith))) (laws.order a 0xF4),
    )

module _ (text : List ℕ) (i : ℕ) (within : i < length text) (some : 0 < character_length (drop i text)) where
  abbrev n : ℕ
  n = character_length (drop i text)

  abbrev at : ℕ → ℕ
  at k = get_or text (i + k) 0

  abbrev a : ℕ
  a = get_or text i 0

  fits : (k : ℕ) → n ≡ k → i + k ≤ length text
  fits k e = omega (arith, e, (shape (drop i text)).within, length-drop i text)

  abbrev Character : ℕ → Type 0
  Character k = IsUtf8 (take k (drop i text))

  of_one : a < 0x80 → Character n
  of_one h =
      let e : n ≡ 1 = length_at text i within ∙ grind (arith, nat_tests) in
      subst Character (sym e) (valid.of_one text i within h)

  of_two : 0xC2 ≤ a → a < 0xE0 → Character n
  of_two u v =
      let e : n ≡ cond (is_trailing (at 1)) 2 0 = length_at text i within ∙ grind (arith, nat_tests) in
      let r = chosen n 2 (is_trailing (at 1)) some e in
      subst Character (sym r.1) (valid.of_two text i (omega (arith, fits 2 r.1)) (u, v) (follows (at 1) r.0))

  of_three : 0xE0 ≤ a → a < 0xF0 → Character n
  of_three u v =
      let e : n ≡ cond (is_second a (at 1) && is_trailing (at 2)) 3 0 = length_at text i within ∙ grind (arith, nat_tests) in
      let r = chosen n 3 (is_second a (at 1) && is_trailing (at 2)) some e in
      let t = and_parts (is_second a (at 1)) (is_trailing (at 2)) r.0 in
      let s = second a (at 1) t.0 in
      let f = follows (at 2) t.1 in
      let least = s.least in
      let most = s.most in
      subst Character (sym r.1)
      (valid.of_three text i (omega (arith, fits 3 r.1)) (u, v) (least, omega (arith, most)) f (omega (arith, high_enough a (at 1) u s)) (no_surrogate a (at 1) (at 2) u s f))

  of_four : 0xF0 ≤ a → a ≤ 0xF4 → Character n
  of_four u v =
      let e : n ≡ cond ((is_second a (at 1) && is_trailing (at 2)) && is_trailing (at 3)) 4 0 = length_at text i within ∙ grind (arith, nat_tests) in
      let r = chosen n 4 ((is_second a (at 1) && is_trailing (at 2)) && is_trailing (at 3)) some e in
      let t = and_parts (is_second a (at 1) && is_trailing (at 2)) (is_trailing (at 3)) r.0 in
      let w = and_parts (is_second a (at 1)) (is_trailing (at 2)) t.0 in
      let s = second a (at 1) w.0 in
      let least = s.least in
      let most = s.most in
      subst Character (sym r.1)
      (valid.of_four text i (omega (arith, fits 4 r.1)) u (least, omega (arith, most)) (follows (at 2) w.1) (follows (at 3) t.1) (in_planes a (at 1) u v s))

  none_low : 0x80 ≤ a → a < 0xC2 → Character n
  none_low u v =
      let e : n ≡ 0 = length_at text i within ∙ grind (arith, nat_tests) in
      absurd (omega (arith, e, some))

  none_high : 0xF4 < a → Character n
  none_high u =
      let e : n ≡ 0 = length_at text i within ∙ grind (arith, nat_tests) in
      absurd (omega (arith, e, some))

  pub spelt : Character n
  spelt = ⊎_elim of_one
      (λ u. ⊎_elim (none_low u)
      (λ u'. ⊎_elim (of_two u')
      (λ u''. ⊎_elim (of_three u'')
      (λ u'''. ⊎_elim (λ v. of_four u''' (omega arith)) (λ v. none_high (omega arith)) (laws.order a 0xF5))
      (laws.order a 0xF0))
      (laws.order a 0xE0))
      (laws.order a 0xC2))
      (laws.order a 0x80)

-- ── the first ill-formed byte

past : (p c : ℕ) (xs : List ℕ) → scalar c ≡ true → first_ill_formed p (encode c ++ xs) ≡ first_ill_formed (p + length (encode c)) xs
past p c xs s =
    let e = encoded c xs s in
    let some : 0 < length (encode c ++ xs) = omega (arith, length-append (encode c) xs, e.0) in
    ill_on p (encode c ++ xs) some (λ z. omega (arith, z, e.1, e.0))
    ∙ ap (λ k. first_ill_formed (p + k) (drop k (encode c ++ xs))) e.1
    ∙ ap (first_ill_formed (p + length (encode c))) (drop-append-le (length (encode c)) (encode c) xs (omega arith) ∙ ap (λ l. l ++ xs) (drop-length (encode c)))

all_past : (p : ℕ) (cs xs : List ℕ) → scalars cs ≡ true → first_ill_formed p (encodes cs ++ xs) ≡ first_ill_formed (p + length (encodes cs)) xs
all_past p [] xs s = ap (λ k. first_ill_formed k xs) (sym (add-zero p))
all_past p (c ∷ cs) xs s =
    let t = and_parts (scalar c) (scalars cs) s in
    let e : p + length (encode c) + length (encodes cs) ≡ p + length (encode c ++ encodes cs) = omega (arith, length-append (encode c) (encodes cs)) in
    ap (first_ill_formed p) (append_assoc (encode c) (encodes cs) xs)
    ∙ past p c (encodes cs ++ xs) t.0
    ∙ all_past (p + length (encode c)) cs xs t.1
    ∙ ap (λ k. first_ill_formed k xs) e

pub well : (text : List ℕ) → IsUtf8 text → first_ill_formed 0 text ≡ None
well text u =
    ap (first_ill_formed 0) (sym (append-nil (encodes u.0) ∙ u.1.1))
    ∙ all_past 0 u.0 [] u.1.0
    ∙ ill_none (0 + length (encodes u.0))

front : (text : List ℕ) (n : ℕ) → n ≤ length text → IsUtf8 (take n text) → first_ill_formed 0 text ≡ first_ill_formed n (drop n text)
front text n h u =
    let e : 0 + length (encodes u.0) ≡ n = omega (arith, ap length u.1.1 ∙ length-take-le n text h) in
    ap (first_ill_formed 0) (sym (take-append-drop n text) ∙ ap (λ l. l ++ drop n text) (sym u.1.1))
    ∙ all_past 0 u.0 (drop n text) u.1.0
    ∙ ap (λ k. first_ill_formed k (drop n text)) e

ends : (text : List ℕ) (n : ℕ) → IsValidUpTo text n → character_length (drop n text) ≡ 0
ends text n v = go (eqb (character_length (drop n text)) 0) refl
  where
    go : (t : Bool) → eqb (character_length (drop n text)) 0 ≡ t → character_length (drop n text) ≡ 0
    go true w = eqb-true (character_length (drop n text)) 0 w
    go false w =
        let z = eqb-false (character_length (drop n text)) 0 w in
        let some : 0 < character_length (drop n text) = omega arith in
        absurd (v.longest (n + character_length (drop n text)) (omega arith)
        (valid.longer text n (character_length (drop n text)) v.front (spelt text n v.short some)))

pub ill : (text : List ℕ) (n : ℕ) → IsValidUpTo text n → first_ill_formed 0 text ≡ Some n
ill text n v =
    let short = v.short in
    front text n (omega arith) v.front ∙ ill_at text n (character_length (drop n text)) short refl (ends text n v)
