-- `put_map` meets its contract.
use native.Mathlib.Omega.{arith}
use mathlib.Core.Path.{sym}
use lib.Seq.{length-take-le}
use Rattle.formatter.proofs.Entries.{map-fills}
use Rattle.formatter.proofs.Accepted.put_map.Goals as goal

pub put_noted-requires : goal.put_noted-requires
put_noted-requires c = c.requires

pub overflow_add-end : goal.overflow_add-end
overflow_add-end c = let t = c.requires.trims.0.short in omega (arith, t)

pub slice_bounds-place_tokens-end : goal.slice_bounds-place_tokens-end
slice_bounds-place_tokens-end c = omega (arith, c.requires.trims.3, c.put_noted.auto.out)

pub slice_bounds-place_tokens-end-2 : goal.slice_bounds-place_tokens-end-2
slice_bounds-place_tokens-end-2 c = sym (length-take-le _ _ (omega (arith, c.requires.trims.3, c.put_noted.auto.out)))

pub returns : goal.returns
returns c = let p = c.requires in (c.put_noted.ensures.0, map-fills p.trims.0 p.trims.2 c.put_noted.ensures.0 c.put_noted.ensures.1 c.place_tokens.ensures)
