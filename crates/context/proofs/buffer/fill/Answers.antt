-- `context::buffer::fill` meets its contract: one byte is laid over the part by itself; else as many as there is room for take the place of its front.
use mathlib.Core.Path.{◌≡◌, refl, sym, ap, ◌∙◌}
use mathlib.Core.List.{List, [], ◌∷◌}
use Prim.Native.Nat.{ℕ, min, ◌≤◌}
use native.Mathlib.Nat.{min-le_left, min-le_right}
use native.Mathlib.Omega.{arith}
use Rattle.std.proofs.lemmas.List.{length-take-le, take-replicate}
use lib.ListN.{length, set, replicate, take, length-replicate}
use Rattle.context.specs.Splice.{splice}
use Rattle.context.proofs.Splicing.{splice-nil, splice-past, splice-front}
use Rattle.context.proofs.buffer.fill.Goals as goal

one-laid : (n b : ℕ) (xs : List ℕ) → n ≡ 1 → set xs 0 b ≡ splice 0 (replicate n b) xs
unfolding splice
one-laid n b [] e = refl
one-laid n b (x ∷ xs) e = rw e (ap {B = List ℕ} (λ ys. b ∷ ys) (sym (splice-nil 0 xs)))

kept : (k n b : ℕ) (xs : List ℕ) → k ≤ n → k ≤ length xs → replicate (length (take k xs)) b ≡ take k (replicate n b)
kept k n b xs h l = rw (length-take-le k xs l, take-replicate k n b h) refl

pub returns-then-out-gt0 : goal.returns-then-out-gt0
returns-then-out-gt0 c = one-laid c.args.n c.args.b c.args.out.now c.if-n-eq1.true

pub returns-else-out-gt0 : goal.returns-else-out-gt0
returns-else-out-gt0 c = sym (splice-past 0 _ c.args.out.now c.if-out-gt0.false)

pub returns : goal.returns
returns c =
    let n = c.args.n in
    let low = min-le_left n (length c.args.out.now) in
    let m : c.min-end.result ≡ min (length (replicate n c.args.b)) (length c.args.out.now) = rw length-replicate c.min-end.ensures in
    splice-front (replicate n c.args.b) c.args.out.now c.fill.new.self c.min-end.result m
    (c.fill.ensures.after (λ y h. h) ∙ kept c.min-end.result n c.args.b c.args.out.now (omega arith) (omega (arith, min-le_right n (length c.args.out.now))))
