-- Laws of noting: what becomes of the numbers of the map, one note or many.
use Prim.Native.Nat.{ℕ, zero, suc, ◌+◌, ◌-◌, ◌*◌, ◌≤◌, ◌<◌}
use native.Mathlib.Omega.{arith}
use mathlib.Core.Path.{◌≡◌, refl, sym, ap, ◌∙◌}
use mathlib.Core.List.{List, [], ◌∷◌, ◌++◌}
use lib.ListN.{length, get_or, set, replicate, length-set, length-replicate, get_or-replicate}
use lib.Seq.{get_or-set_same, get_or-set_other}
use lib.Dec.{ltb}
use borrow.Author.Tests.{lt-ltb, le-ltb}
use Rattle.std.proofs.lemmas.Bool.{cond_both}
use Rattle.token_map.specs.Notes.{noted, note_all}

-- ── one note

module _ (place : ℕ) (m : List ℕ) where
  pub noted_one : get_or m (length m - 1) 0 < length m - 1
      → set (set m (get_or m (length m - 1) 0) place) (length m - 1) (get_or m (length m - 1) 0 + 2) ≡ noted place m
  unfolding noted
  noted_one h = rw (lt-ltb _ _ h)

  pub noted-full : length m - 1 ≤ get_or m (length m - 1) 0 → m ≡ noted place m
  unfolding noted
  noted-full h = rw (le-ltb _ _ h)

  pub length-noted : length (noted place m) ≡ length m
  unfolding noted
  length-noted =
      let next = get_or m (length m - 1) 0 in
      cond_both (ltb next (length m - 1)) (set (set m next place) (length m - 1) (next + 2)) m (λ x. length x ≡ length m) (λ _. simp length-set) (λ _. refl)

-- ── many

pub note_all-append : (ps qs m : List ℕ) → note_all (ps ++ qs) m ≡ note_all qs (note_all ps m)
unfolding note_all
note_all-append [] qs m = refl
note_all-append (p ∷ ps) qs m = note_all-append ps qs (noted p m)

pub length-note_all : (ps m : List ℕ) → length (note_all ps m) ≡ length m
unfolding note_all
length-note_all [] m = refl
length-note_all (p ∷ ps) m = length-note_all ps (noted p m) ∙ length-noted p m

pub note_all-none : (ps m : List ℕ) → length m ≡ 0 → m ≡ note_all ps m
unfolding note_all
note_all-none [] m e = refl
note_all-none (p ∷ ps) m e = rw (← noted-full p m (omega (arith, e))) (note_all-none ps m e)

-- one token without a place more
pub note_all-more : (n : ℕ) (m : List ℕ) → noted 0 (note_all (replicate n 0) m) ≡ note_all (replicate (suc n) 0) m
unfolding note_all
note_all-more zero m = refl
note_all-more (suc n) m = note_all-more n (noted 0 m)

-- ── what stands where

-- the last number is the index of the next pair
abbrev cursor : List ℕ → ℕ
cursor m = get_or m (length m - 1) 0

module _ (p : ℕ) (m : List ℕ) (h : cursor m < length m - 1) where
  noted-is : noted p m ≡ set (set m (cursor m) p) (length m - 1) (cursor m + 2)
  noted-is = sym (noted_one p m h)

  noted_here : get_or (noted p m) (cursor m) 0 ≡ p
  noted_here =
      rw noted-is
      (get_or-set_other (set m (cursor m) p) (length m - 1) (cursor m) (cursor m + 2) 0 (λ e. omega arith) ∙ get_or-set_same m (cursor m) p 0 (omega arith))

  noted-cursor : cursor (noted p m) ≡ cursor m + 2
  noted-cursor =
      rw (length-noted p m, noted-is) (get_or-set_same (set m (cursor m) p) (length m - 1) (cursor m + 2) 0 (rw length-set (omega arith)))

  noted_other : (i : ℕ) → i < cursor m → get_or (noted p m) i 0 ≡ get_or m i 0
  noted_other i l =
      rw noted-is
      (get_or-set_other (set m (cursor m) p) (length m - 1) i (cursor m + 2) 0 (λ e. omega arith) ∙ get_or-set_other m (cursor m) i p 0 (λ e. omega arith))

-- what was noted stays, while there is room
note_all-keeps : (ps m : List ℕ) (i : ℕ) → i < cursor m → cursor m + 2 * length ps ≤ length m → get_or (note_all ps m) i 0 ≡ get_or m i 0
unfolding note_all
note_all-keeps [] m i h k = refl
note_all-keeps (p ∷ ps) m i h k =
    let room : cursor m < length m - 1 = omega arith in
    let c = noted-cursor p m room in
    note_all-keeps ps (noted p m) i (omega (arith, c)) (omega (arith, c, length-noted p m)) ∙ noted_other p m room i h

note_all-at : (ps m : List ℕ) (j : ℕ) → j < length ps → cursor m + 2 * length ps ≤ length m → get_or (note_all ps m) (cursor m + 2 * j) 0 ≡ get_or ps j 0
unfolding note_all
note_all-at [] m j h k = absurd (omega arith)
note_all-at (p ∷ ps) m zero h k =
    let room : cursor m < length m - 1 = omega arith in
    let c = noted-cursor p m room in
    let same : cursor m + 2 * 0 ≡ cursor m = omega arith in
    ap (λ i. get_or (note_all ps (noted p m)) i 0) same
    ∙ note_all-keeps ps (noted p m) (cursor m) (omega (arith, c)) (omega (arith, c, length-noted p m))
    ∙ noted_here p m room
note_all-at (p ∷ ps) m (suc j) h k =
    let room : cursor m < length m - 1 = omega arith in
    let c = noted-cursor p m room in
    let same : cursor m + 2 * suc j ≡ cursor (noted p m) + 2 * j = omega (arith, c) in
    ap (λ i. get_or (note_all ps (noted p m)) i 0) same ∙ note_all-at ps (noted p m) j (omega arith) (omega (arith, c, length-noted p m))

zeros-cursor : (n : ℕ) → cursor (replicate n 0) ≡ 0
zeros-cursor zero = refl
zeros-cursor (suc n) = get_or-replicate (suc n) (length (replicate (suc n) 0) - 1) 0 0 (rw length-replicate (omega arith))

-- over zeros the places stand in the first numbers of the pairs
pub noted-places : (ps : List ℕ) (n j : ℕ) → j < length ps → 2 * length ps ≤ n → get_or (note_all ps (replicate n 0)) (2 * j) 0 ≡ get_or ps j 0
noted-places ps n j h k =
    let z = zeros-cursor n in
    let same : 2 * j ≡ cursor (replicate n 0) + 2 * j = omega (arith, z) in
    ap (λ i. get_or (note_all ps (replicate n 0)) i 0) same ∙ note_all-at ps (replicate n 0) j h (omega (arith, z, length-replicate {A = ℕ} n 0))
