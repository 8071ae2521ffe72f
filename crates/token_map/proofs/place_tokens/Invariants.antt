-- `place_tokens` meets its contract. The invariant: the pairs passed are done, and with the others they come to what all do.
use Rattle.std.proofs.Common.{◌≡◌, ◌*◌, ◌++◌, take, drop}
use Rattle.token_map.specs.Spots.{spots}
use Rattle.token_map.proofs.place_tokens.Given as goal

abbrev pub invariant-loop-i : goal.invariant-loop-i
invariant-loop-i l =
    (l.lines.out.now ≡ l.out) × (take (2 * l.i) l.map ++ spots l.k l.out (drop (2 * l.i) l.map) ≡ spots l.k l.out l.initial.map)
