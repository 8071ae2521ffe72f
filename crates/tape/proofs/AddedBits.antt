-- The byte x of a node after one more child that adds the bits b: `with_child` by what `child_bits` is.
use Prim.Native.Nat.{ℕ, ◌*◌}
use lib.Bits.{bit_and, bit_or}

abbrev pub with_bits : ℕ → ℕ → ℕ
with_bits b x = bit_or (bit_or x b) (bit_and x 2 * 2)
