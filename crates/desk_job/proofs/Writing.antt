-- Laws of `written`: nothing, one byte, writes in a row, and a loop; and of the digits.
use mathlib.Core.Path.{◌≡◌, refl, sym, ap, subst, ◌∙◌}
use mathlib.Core.List.{List, [], ◌∷◌, ◌++◌}
use Prim.Native.Nat.{ℕ, zero, suc, min, ◌+◌, ◌-◌, ◌/◌, ◌%◌, ◌≤◌, ◌<◌}
use native.Mathlib.Nat.{suc-ne-zero}
use native.Mathlib.Numerals.{add-one, sub-one}
use native.Mathlib.Omega.{arith, min_cases}
use lib.ListN.{length, get_or, take, set, length-append}
use lib.Seq.{take-suc, take_all}
use borrow.Author.Tests.{lt-ltb, le-ltb}
use Rattle.context.specs.Splice.{splice}
use Rattle.context.proofs.Splicing.{splice-nil, splice-splice, splice-past}
use Rattle.desk_job.specs.Job.{decimal}
use Rattle.desk_job.specs.Written.{Written, written}
use Rattle.desk_job.specs.Puts.{Puts}
use Rattle.desk_job.specs.declared.write.Writer.{Writer}

length-splice : (n : ℕ) (bs xs : List ℕ) → length (splice n bs xs) ≡ length xs
unfolding splice
length-splice n bs [] = refl
length-splice (suc n) bs (x ∷ xs) = ap suc (length-splice n bs xs)
length-splice zero [] (x ∷ xs) = refl
length-splice zero (b ∷ bs) (x ∷ xs) = ap suc (length-splice zero bs xs)

abbrev pub Wrote : ℕ → List ℕ → ℕ → List ℕ → List ℕ → Type 0
Wrote r out at bs xs = ◌≡◌ {A = Written} (record { end = r; space = out }) (written at bs xs)

pub wrote : (r at : ℕ) (bs xs out : List ℕ) → r ≡ min (at + length bs) (length xs) → out ≡ splice at bs xs → Wrote r out at bs xs
unfolding written
wrote r at bs xs out e f = rw (e, f)

module _ {r : ℕ} {out : List ℕ} (at : ℕ) (bs xs : List ℕ) (h : Wrote r out at bs xs) where
  end_of : r ≡ min (at + length bs) (length xs)
  unfolding written
  end_of = ap (λ (w : Written). w.end) h

  pub space-of : out ≡ splice at bs xs
  unfolding written
  space-of = ap (λ (w : Written). w.space) h

  pub same_length-of : length out ≡ length xs
  same_length-of = ap length space-of ∙ length-splice at bs xs

  -- a writer ends within the space
  pub within : r ≤ length out
  within = omega (arith, end_of, same_length-of)

pub wrote_nothing : (at : ℕ) (xs : List ℕ) → at ≤ length xs → Wrote at xs at [] xs
wrote_nothing at xs h = wrote at at [] xs xs (omega (arith, h)) (sym (splice-nil at xs))

splice-one : (at b : ℕ) (xs : List ℕ) → set xs at b ≡ splice at (b ∷ []) xs
unfolding splice
splice-one at b [] = refl
splice-one (suc at) b (x ∷ xs) = ap (λ (r : List ℕ). x ∷ r) (splice-one at b xs)
splice-one zero b (x ∷ xs) = ap (λ (r : List ℕ). b ∷ r) (sym (splice-nil zero xs))

pub wrote_one : (at b : ℕ) (xs : List ℕ) → at < length xs → Wrote (at + 1) (set xs at b) at (b ∷ []) xs
wrote_one at b xs h = wrote (at + 1) at (b ∷ []) xs (set xs at b) (omega (arith, h)) (splice-one at b xs)

pub wrote_past : (at b : ℕ) (xs : List ℕ) → at ≤ length xs → length xs ≤ at → Wrote at xs at (b ∷ []) xs
wrote_past at b xs h k = wrote at at (b ∷ []) xs xs (omega (arith, h, k)) (sym (splice-past at (b ∷ []) xs k))

-- two writes, the second where the first ended, are one
pub wrote_then : {r s : ℕ} {out end : List ℕ} (at : ℕ) (ps bs xs : List ℕ) → Wrote r out at ps xs → Wrote s end r bs out → Wrote s end at (ps ++ bs) xs
wrote_then {r} {s} {out} {end} at ps bs xs h k =
    let la = length-append ps bs in
    let lo = same_length-of at ps xs h in
    let e = end_of at ps xs h in
    let f = end_of r bs out k in
    wrote s at (ps ++ bs) xs end (omega (arith, la, lo, e, f))
    (space-of r bs out k ∙ min_cases (at + length ps) (length xs) (splice r bs out ≡ splice at (ps ++ bs) xs)
    (λ p m. rw (e ∙ m, space-of at ps xs h) (splice-splice at ps bs xs))
    (λ q m.
    let ls = length-splice at ps xs in
    splice-past r bs out (omega (arith, e ∙ m, lo))
    ∙ space-of at ps xs h
    ∙ sym (splice-past (at + length ps) bs (splice at ps xs) (omega (arith, ls, q)))
    ∙ splice-splice at ps bs xs))

-- a loop that writes a text byte by byte: one pass, and the end
pub wrote_step : {r s : ℕ} {out end : List ℕ} (at : ℕ) (xs text : List ℕ) (i : ℕ) → i < length text → Wrote r out at (take i text) xs → Wrote s end r (get_or text i 0 ∷ []) out
    → Wrote s end at (take (i + 1) text) xs
wrote_step at xs text i l h k = rw (add-one, take-suc text i 0 l) (wrote_then at (take i text) (get_or text i 0 ∷ []) xs h k)

pub wrote_all : {r : ℕ} {out : List ℕ} (at : ℕ) (xs text : List ℕ) (i : ℕ) → length text ≤ i → Wrote r out at (take i text) xs → Wrote r out at text xs
wrote_all {r} {out} at xs text i l h = subst (λ (t : List ℕ). Wrote r out at t xs) (take_all i text l) h

-- ── a writer

pub puts_nothing : (w : Writer) → Puts w [] w
puts_nothing w = record { same = refl; wrote = wrote_nothing w.end w.out.now w.within }

pub puts_then : {u v w : Writer} {bs cs : List ℕ} → Puts u bs v → Puts v cs w → Puts u (bs ++ cs) w
puts_then {u} {v} {w} {bs} {cs} h k = record { same = k.same ∙ h.same; wrote = wrote_then {r = v.end} {out = v.out.now} u.end bs cs u.out.now h.wrote k.wrote }

-- from a new writer on a space to where it ended, and to the space afterwards
pub puts_all : {u v : Writer} {n : ℕ} {bs xs out : List ℕ} → u.end ≡ 0 → u.out.now ≡ xs → Puts u bs v → n ≡ v.end → out ≡ v.out.now → Wrote n out 0 bs xs
puts_all z s h e o = rw (e, o, ← z, ← s) h.wrote

-- ── the digits

pub decimal-none : (places n : ℕ) → places ≡ 0 → decimal places n ≡ []
unfolding decimal
decimal-none zero n z = refl
decimal-none (suc k) n z = absurd (suc-ne-zero k z)

pub decimal-last : (places n : ℕ) → (places ≡ 0 → ⊥) → n < 10 → decimal places n ≡ (48 + n) ∷ []
unfolding decimal
decimal-last zero n z l = absurd (z refl)
decimal-last (suc k) n z l = simp (lt-ltb n 10 l)

pub decimal-more : (places n : ℕ) → (places ≡ 0 → ⊥) → 10 ≤ n → decimal places n ≡ decimal (places - 1) (n / 10) ++ ((48 + n % 10) ∷ [])
unfolding decimal
decimal-more zero n z l = absurd (z refl)
decimal-more (suc k) n z l = rw (sub-one) (simp (le-ltb n 10 l))
