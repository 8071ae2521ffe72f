-- A length, or none in place of 0.
use Prim.Native.Nat.{ℕ, zero, suc, ◌<◌}
use native.Mathlib.Omega.{arith}
use mathlib.Core.Path.{◌≡◌, refl, sym, ◌∙◌}
use Rattle.std.specs.Prelude.{Option, Some, None}
use Rattle.std.proofs.lemmas.Option.{none-some, same_Some}
use Rattle.utf8.specs.Steps.{unless_zero}

pub zero_or : {o : Option ℕ} (n : ℕ) → o ≡ unless_zero n → o ≡ None → n ≡ 0
zero_or zero e h = refl
zero_or (suc n) e h = absurd (none-some (suc n) (sym h ∙ e))

pub length_or : {o : Option ℕ} {k : ℕ} (n : ℕ) → o ≡ unless_zero n → o ≡ Some k → (k ≡ n) × (0 < k)
length_or zero e h = absurd (none-some _ (sym e ∙ h))
length_or (suc n) e h = let s = same_Some _ _ (sym h ∙ e) in (s, omega (arith, s))
