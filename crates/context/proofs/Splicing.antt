-- Laws of `splice`: writes in a row, past the end, over the whole list, by a loop, and into a lent part.
use mathlib.Core.Path.{◌≡◌, refl, sym, ap, ◌∙◌}
use mathlib.Core.List.{List, [], ◌∷◌, ◌++◌, append-nil}
use Prim.Native.Nat.{ℕ, zero, suc, min, ◌+◌, ◌-◌, ◌≤◌, ◌<◌}
use native.Mathlib.Nat.{add-suc, suc-add, zero-add, zero-min, min-zero, suc-min-suc, le_of_suc-le-suc, not-suc-le-zero}
use native.Mathlib.Numerals.{add-one}
use native.Mathlib.Omega.{arith}
use lib.ListN.{length, get_or, take, drop, set, length-drop, drop_of_length-le}
use lib.Seq.{take_all, take-nil, take-take}
use Rattle.context.specs.Splice.{splice}

module _ {A : Type 0} where
  pub splice-nil : (n : ℕ) (xs : List A) → splice n [] xs ≡ xs
  unfolding splice
  splice-nil n [] = refl
  splice-nil (suc n) (x ∷ xs) = ap {B = List A} (λ r. x ∷ r) (splice-nil n xs)
  splice-nil zero (x ∷ xs) = refl

  -- two writes, one right after the other, are one
  pub splice-splice : (n : ℕ) (a b xs : List A) → splice (n + length a) b (splice n a xs) ≡ splice n (a ++ b) xs
  unfolding splice
  splice-splice n a b [] = refl
  splice-splice (suc n) a b (x ∷ xs) = rw suc-add (ap {B = List A} (λ r. x ∷ r) (splice-splice n a b xs))
  splice-splice zero [] b (x ∷ xs) = refl
  splice-splice zero (c ∷ a) b (x ∷ xs) = rw add-suc (ap {B = List A} (λ r. c ∷ r) (splice-splice zero a b xs))

  -- past the end nothing is written
  pub splice-past : (n : ℕ) (bs xs : List A) → length xs ≤ n → splice n bs xs ≡ xs
  unfolding splice
  splice-past n bs [] h = refl
  splice-past (suc n) bs (x ∷ xs) h = ap {B = List A} (λ r. x ∷ r) (splice-past n bs xs (le_of_suc-le-suc h))
  splice-past zero bs (x ∷ xs) h = absurd (not-suc-le-zero h)

  -- a write that covers the list from its start
  pub splice-covers : (bs xs : List A) → length xs ≤ length bs → splice 0 bs xs ≡ take (length xs) bs
  unfolding splice
  splice-covers bs [] h = refl
  splice-covers [] (x ∷ xs) h = absurd (not-suc-le-zero h)
  splice-covers (b ∷ bs) (x ∷ xs) h = ap {B = List A} (λ r. b ∷ r) (splice-covers bs xs (le_of_suc-le-suc h))

  -- ── a text in two writes, its front up to m and its back from k on, which together leave nothing out

  splice-over : (m : ℕ) (bs xs : List A) → splice 0 bs (splice 0 (take m bs) xs) ≡ splice 0 bs xs
  unfolding splice
  splice-over m bs [] = refl
  splice-over (suc m) (b ∷ bs) (x ∷ xs) = ap {B = List A} (λ r. b ∷ r) (splice-over m bs xs)
  splice-over _ _ _ = refl

  splice-under : (m : ℕ) (bs xs : List A) → splice 0 (take m bs) (splice 0 bs xs) ≡ splice 0 bs xs
  unfolding splice
  splice-under m bs [] = refl
  splice-under zero bs (x ∷ xs) = splice-nil 0 _
  splice-under (suc m) (b ∷ bs) (x ∷ xs) = ap {B = List A} (λ r. b ∷ r) (splice-under m bs xs)
  splice-under _ _ _ = refl

  -- the front first
  front_back : (k m : ℕ) (bs xs : List A) → k ≤ m → splice k (drop k bs) (splice 0 (take m bs) xs) ≡ splice 0 bs xs
  unfolding splice
  front_back zero m bs xs h = splice-over m bs xs
  front_back (suc k) zero bs xs h = absurd (not-suc-le-zero h)
  front_back (suc k) (suc m) bs [] h = refl
  front_back (suc k) (suc m) [] (x ∷ xs) h = ap {B = List A} (λ r. x ∷ r) (splice-nil k xs)
  front_back (suc k) (suc m) (b ∷ bs) (x ∷ xs) h = ap {B = List A} (λ r. b ∷ r) (front_back k m bs xs (le_of_suc-le-suc h))

  -- the back first
  back_front : (k m : ℕ) (bs xs : List A) → k ≤ m → splice 0 (take m bs) (splice k (drop k bs) xs) ≡ splice 0 bs xs
  unfolding splice
  back_front zero m bs xs h = splice-under m bs xs
  back_front (suc k) zero bs xs h = absurd (not-suc-le-zero h)
  back_front (suc k) (suc m) bs [] h = refl
  back_front (suc k) (suc m) [] (x ∷ xs) h = ap {B = List A} (λ r. x ∷ r) (splice-nil k xs)
  back_front (suc k) (suc m) (b ∷ bs) (x ∷ xs) h = ap {B = List A} (λ r. b ∷ r) (back_front k m bs xs (le_of_suc-le-suc h))

  -- ── a loop that writes ps element by element, as far as the list goes

  splice-step : (i : ℕ) (ps xs : List A) (d : A) → i < length ps → set (splice 0 (take i ps) xs) i (get_or ps i d) ≡ splice 0 (take (suc i) ps) xs
  unfolding splice
  splice-step i ps [] d h = refl
  splice-step i [] (x ∷ xs) d h = absurd (not-suc-le-zero h)
  splice-step zero (p ∷ ps) (x ∷ xs) d h = ap {B = List A} (λ r. p ∷ r) (sym (splice-nil zero xs))
  splice-step (suc i) (p ∷ ps) (x ∷ xs) d h = ap {B = List A} (λ r. p ∷ r) (splice-step i ps xs d (le_of_suc-le-suc h))

  splice-min : (ps xs : List A) → splice 0 (take (min (length ps) (length xs)) ps) xs ≡ splice 0 ps xs
  unfolding splice
  splice-min ps [] = refl
  splice-min [] (x ∷ xs) = rw zero-min
  splice-min (p ∷ ps) (x ∷ xs) = rw suc-min-suc (ap {B = List A} (λ r. p ∷ r) (splice-min ps xs))

  -- one pass
  pub loop_step : (ps xs out : List A) (i : ℕ) (v d : A) → out ≡ splice 0 (take i ps) xs → i < length ps → get_or ps i d ≡ v
      → set out i v ≡ splice 0 (take (i + 1) ps) xs
  loop_step ps xs out i v d e h g = rw (add-one, e, ← g) (splice-step i ps xs d h)

  -- the end
  pub loop_end : (ps xs out : List A) (i : ℕ) → out ≡ splice 0 (take i ps) xs → i ≡ min (length ps) (length xs) → out ≡ splice 0 ps xs
  loop_end ps xs out i e h = e ∙ ap (λ (k : ℕ). splice 0 (take k ps) xs) h ∙ splice-min ps xs

  -- as many elements as there is room for took the place of the front
  front-laid : (ps xs : List A) → take (min (length ps) (length xs)) ps ++ drop (min (length ps) (length xs)) xs ≡ splice 0 ps xs
  unfolding splice
  front-laid ps [] = rw (min-zero (length ps)) refl
  front-laid [] (x ∷ xs) = rw zero-min refl
  front-laid (p ∷ ps) (x ∷ xs) = rw suc-min-suc (ap {B = List A} (λ r. p ∷ r) (front-laid ps xs))

  pub splice-front : (ps xs ys : List A) (n : ℕ) → n ≡ min (length ps) (length xs) → ys ≡ take n ps → ys ++ drop n xs ≡ splice 0 ps xs
  splice-front ps xs ys n e f = rw (f, e) (front-laid ps xs)

  -- ── a part that starts mid-list

  splice-part : (n : ℕ) (bs xs : List A) → splice n bs xs ≡ take n xs ++ splice 0 bs (drop n xs)
  unfolding splice
  splice-part zero bs xs = refl
  splice-part (suc n) bs [] = refl
  splice-part (suc n) bs (x ∷ xs) = ap {B = List A} (λ r. x ∷ r) (splice-part n bs xs)

  -- the part that starts at `at` was lent, and comes back with bs laid over it
  pub part_back : (at : ℕ) (bs xs ys : List A) → ys ≡ splice 0 bs (take (length xs - at) (drop at xs))
      → take at xs ++ (ys ++ drop (length xs - at) (drop at xs)) ≡ splice at bs xs
  part_back at bs xs ys e =
      let l = length-drop at xs in
      let k : length (drop at xs) ≤ length xs - at = omega arith in
      rw (e, take_all (length xs - at) (drop at xs) k, drop_of_length-le (drop at xs) k, append-nil, splice-part at)

  drop-take : (k m : ℕ) (ps : List A) → drop k (take (k + m) ps) ≡ take m (drop k ps)
  drop-take zero m ps = ap (λ (n : ℕ). take n ps) (zero-add m)
  drop-take (suc k) m [] = ap (λ (n : ℕ). drop (suc k) (take {A = A} n [])) (suc-add k m) ∙ sym (take-nil m)
  drop-take (suc k) m (p ∷ ps) = ap (λ (n : ℕ). drop (suc k) (take n (p ∷ ps))) (suc-add k m) ∙ drop-take k m ps

  -- m elements of the part of ps from k on are the back of the first n
  lent_back : (k m n : ℕ) (ps : List A) → n ≡ k + m → take m (take (length ps - k) (drop k ps)) ≡ drop k (take n ps)
  lent_back k m n ps e =
      let l = length-drop k ps in
      let fits : length (drop k ps) ≤ length ps - k = omega arith in
      rw (take_all (length ps - k) (drop k ps) fits, e) (sym (drop-take k m ps))

  module _ (k m n : ℕ) (ps xs out ys : List A) (h : k ≤ m) (e : n ≡ k + m) where
    -- the first m of ps were written, then the m from k on into the lent part: the first n
    pub front_then_back : out ≡ splice 0 (take m ps) xs → ys ≡ splice 0 (take m (take (length ps - k) (drop k ps))) (take (length out - k) (drop k out))
        → take k out ++ (ys ++ drop (length out - k) (drop k out)) ≡ splice 0 (take n ps) xs
    front_then_back f b = cc (part_back k _ out ys b, lent_back k m n ps e, take-take m n ps (omega arith), front_back k m (take n ps) xs h)

    -- the other way round
    pub back_then_front : ys ≡ splice 0 (take m (take (length ps - k) (drop k ps))) (take (length xs - k) (drop k xs))
        → out ≡ splice 0 (take m ps) (take k xs ++ (ys ++ drop (length xs - k) (drop k xs))) → out ≡ splice 0 (take n ps) xs
    back_then_front b f = cc (part_back k _ xs ys b, lent_back k m n ps e, take-take m n ps (omega arith), back_front k m (take n ps) xs h)
