-- The case of a byte: letters change, any other byte stays.
use Rattle.std.specs.Prelude.{ℕ, ◌+◌, ◌-◌, cond, ◌&&◌, leb}

unfoldable pub to_uppercase : ℕ → ℕ
to_uppercase b = cond (leb 97 b && leb b 122) (b - 32) b

unfoldable pub to_lowercase : ℕ → ℕ
to_lowercase b = cond (leb 65 b && leb b 90) (b + 32) b
