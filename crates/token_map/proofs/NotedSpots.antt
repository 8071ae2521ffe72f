-- From what was noted over zeros to the map: two numbers for each place.
use Prim.Native.Nat.{ℕ, suc, ◌*◌, ◌≤◌, ◌<◌}
use native.Mathlib.Omega.{arith}
use mathlib.Core.Path.{◌≡◌, refl, ap, ◌∙◌}
use mathlib.Core.List.{List, [], ◌∷◌, map}
use lib.ListN.{length, get_or, take, replicate, length-replicate}
use Rattle.layout.specs.MapCall.{flat}
use Rattle.layout.specs.TokenMap.{entry}
use Rattle.token_map.specs.Notes.{note_all}
use Rattle.token_map.specs.Spots.{spots}
use Rattle.token_map.proofs.Noting.{length-note_all, noted-places}

module _ (k : ℕ) (bs : List ℕ) where
  -- where the first number of each pair is a place
  spots-flat : (ps m : List ℕ) → 2 * length ps ≤ length m → ((j : ℕ) → j < length ps → get_or m (2 * j) 0 ≡ get_or ps j 0)
      → spots k bs (take (2 * length ps) m) ≡ flat (map (entry k bs) ps)
  unfolding spots
  spots-flat [] m h f = refl
  spots-flat (p ∷ ps) [] h f = absurd (omega arith)
  spots-flat (p ∷ ps) (x ∷ []) h f = absurd (omega arith)
  spots-flat (p ∷ ps) (x ∷ y ∷ m) h f =
      let two : 2 * suc (length ps) ≡ suc (suc (2 * length ps)) = omega arith in
      let first : x ≡ p = f 0 (omega arith) in
      rw (two, first)
      (ap (λ (l : List ℕ). (entry k bs p).line ∷ (entry k bs p).column ∷ l)
      (spots-flat ps m (omega arith)
      (λ j l.
      let next : suc (suc (2 * j)) ≡ 2 * suc j = omega arith in
      ap (λ i. get_or (x ∷ y ∷ m) i 0) next ∙ f (suc j) (omega arith))))

  pub noted-spots : (ps : List ℕ) (n : ℕ) → 2 * length ps ≤ n → spots k bs (take (2 * length ps) (note_all ps (replicate n 0))) ≡ flat (map (entry k bs) ps)
  noted-spots ps n h =
      spots-flat ps (note_all ps (replicate n 0)) (omega (arith, length-note_all ps (replicate n 0), length-replicate {A = ℕ} n 0))
      (λ j l. noted-places ps n j l h)
