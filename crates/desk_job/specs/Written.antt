-- A space with bytes written into it, as far as it goes.
use Rattle.std.specs.Prelude.{ℕ, min, ◌+◌, List, length}
use Rattle.context.specs.Splice.{splice}

-- where the writing ended, and the space afterwards
pub record Written : Type 0 where
  pub end : ℕ
  pub space : List ℕ

unfoldable pub written : ℕ → List ℕ → List ℕ → Written
written at bytes space = record { end = min (at + length bytes) (length space); space = splice at bytes space }
