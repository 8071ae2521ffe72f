-- `place_tokens` meets its contract. The invariant: the pairs passed are done, and with the others they come to what all do.
use Rattle.std.proofs.Common.{◌≡◌, ◌∙◌, ◌++◌, ◌*◌, ◌+◌, List, sym, ap, arith, take, drop, length-drop}
use lib.ListN.{take-append-drop}
use Rattle.token_map.proofs.Counting.{spots-more, spots-short}
use Rattle.token_map.proofs.place_tokens.Goals as goal

pub loop-i-preserved : goal.loop-i-preserved
loop-i-preserved c =
    let l = c.loop-i in
    let e = c.entry_of-line.ensures in
    let next : 2 * (l.i + 1) ≡ 2 * l.i + 2 = omega arith in
    (e.same ∙ l.invariant.0, rw next (spots-more _ _ l.map (2 * l.i) _ _ (omega arith) (rw l.invariant.0 at e.line) (rw l.invariant.0 at e.column) ∙ l.invariant.1))

pub returns : goal.returns
returns c =
    let l = c.loop-i in
    sym (take-append-drop (2 * l.i) l.map)
    ∙ ap (λ (x : List _). take (2 * l.i) l.map ++ x) (sym (spots-short _ _ (drop (2 * l.i) l.map) (omega (arith, length-drop (2 * l.i) l.map))))
    ∙ l.invariant.1
