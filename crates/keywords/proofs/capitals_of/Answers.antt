-- `capitals_of` meets its contract.
use Prim.Native.Nat.{ℕ, ◌<◌}
use mathlib.Core.Path.{◌≡◌, refl, sym, ap, ◌∙◌}
use mathlib.Core.List.{List, [], ◌++◌, append-nil, map}
use native.Mathlib.Nat.{min-le_left, min-le_right}
use native.Mathlib.Omega.{arith}
use lib.ListN.{length, get_or, take, drop, replicate, length-map, length-set, drop_of_length-le}
use Rattle.std.proofs.lemmas.List.{get_or-map, length-take-le}
use Rattle.std.specs.Char.{to_ascii_uppercase}
use Rattle.keywords.proofs.Capitals.{letters_put}
use Rattle.keywords.proofs.WalkLaws.{put_next}
use Rattle.keywords.proofs.capitals_of.Goals as goal

pub loop-i-init : goal.loop-i-init
loop-i-init c = (refl, refl)

pub loop-i-preserved : goal.loop-i-preserved
loop-i-preserved c =
    let w = c.args.word.now in
    let l = c.loop-i in
    let f = to_ascii_uppercase in
    let zeros : List ℕ = take c.min-n.result (replicate 12 0) in
    let low = min-le_left (length w) 12 in
    let cut : length zeros ≡ c.min-n.result = length-take-le c.min-n.result (replicate 12 0) (omega (arith, c.min-n.ensures, min-le_right (length w) 12)) in
    let more : l.i < length w = omega arith in
    let letter : c.to_ascii_uppercase.result ≡ get_or (map f w) l.i 0 = c.to_ascii_uppercase.ensures.value ∙ sym (get_or-map f w l.i 0 0 more) in (
      rw (l.invariant.0, letter) (put_next (map f w) zeros l.i (rw length-map more) (omega arith)),
      length-set l.letter-items l.i c.to_ascii_uppercase.result ∙ l.invariant.1,
    )

pub returns : goal.returns
returns c =
    let w = c.args.word.now in
    let l = c.loop-i in
    let n = c.min-n.result in
    let zeros : List ℕ = take n (replicate 12 0) in
    let cut : length zeros ≡ n = length-take-le n (replicate 12 0) (omega (arith, c.min-n.ensures, min-le_right (length w) 12)) in
    let e : l.i ≡ n = omega arith in
    let none : drop l.i zeros ≡ [] = drop_of_length-le zeros (omega arith) in
    ap (λ letters. letters ++ drop n (replicate 12 0)) (l.invariant.0 ∙ rw (none, append-nil, e) refl) ∙ letters_put w 12 n c.min-n.ensures
