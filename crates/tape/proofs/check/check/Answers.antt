-- `check` meets its contract. The loop's invariant is `Checking`, the measure what is left of the tape; each exit and each pass is one law of `CheckSteps`.
use Prim.Native.Nat.{ℕ, ◌-◌, ◌*◌, ◌<◌}
use native.Mathlib.Omega.{arith}
use mathlib.Core.Path.{sym, ap, subst, ◌∙◌}
use mathlib.Core.List.{List}
use lib.ListN.{length}
use borrow.Author.Tests.{eqb-true, eqb-false}
use Rattle.std.specs.Prelude.{Option, IfSome, slice_get}
use Rattle.std.proofs.lemmas.List.{length-reverse}
use Rattle.std.proofs.lemmas.Result.{err_from_is_err_and}
use Rattle.tape.proofs.KnownCommands.{open_low}
use Rattle.tape.proofs.CheckSteps.{stray-close, stray-token, second-root, next-close-last, next-token, next-open-last, broken-told, token-told, open-told, placed_ok, none_open, some_open, no_innermost, last-innermost, innermost_fits, end-open, no_root, end-root}
use Rattle.tape.proofs.check.check.Goals as goal
use Rattle.tape.proofs.check.check.Goals.{else-is_empty-2-via-then-is_empty-2+else-at-gt0, else-is_empty-2-via-else-is_empty-2, then-not-is_empty-via-then-not-is_empty, then-not-is_empty-via-else-not-is_empty+then-is_empty-3}

pub returns-in_err-command_at : goal.returns-in_err-command_at
returns-in_err-command_at c =
    let p = err_from_is_err_and c.from_residual.result c.from_residual.ensures.1 in
    rw (p.1, p.2) (broken-told _ _ c.loop-at.invariant c.in_err-command_at.ensures.place c.in_err-command_at.ensures.sort _)

pub returns-in_default : goal.returns-in_default
returns-in_default c =
    stray-close _ _ c.loop-at.invariant (no_innermost _ (sym (last-innermost c.loop-at.open.items) ∙ sym c.pop.ensures.value ∙ c.in_default.is)) (rw c.in-Close.is at c.in_ok-command_at.ensures.sort) _

pub loop-at-preserved-in-Close : goal.loop-at-preserved-in-Close
loop-at-preserved-in-Close c = next-close-last _ _ _ _ _ c.loop-at.invariant c.in-Some.ensures.items (rw c.in-Close.is at c.in_ok-command_at.ensures.sort)

pub returns-then-is_empty : goal.returns-then-is_empty
returns-then-is_empty c = stray-token _ _ c.loop-at.invariant (none_open _ c.is_empty.ensures c.if-is_empty.true) (rw c.in-Token.is at c.in_ok-command_at.ensures.sort) _

pub returns-in_err-check_token-in-Token : goal.returns-in_err-check_token-in-Token
returns-in_err-check_token-in-Token c =
    let p = err_from_is_err_and c.from_residual-in_err-check_token-in-Token.result c.from_residual-in_err-check_token-in-Token.ensures.1 in
    rw (p.1, p.2)
    (token-told _ _ c.loop-at.invariant (some_open _ c.is_empty.ensures c.if-is_empty.false) (rw c.in-Token.is at c.in_ok-command_at.ensures.sort)
    (rw c.in-Token.is at c.in_ok-command_at.ensures.place) c.in_err-check_token-in-Token.ensures _)

pub loop-at-preserved-in-Token : goal.loop-at-preserved-in-Token
loop-at-preserved-in-Token c =
    next-token _ _ c.loop-at.invariant (some_open _ c.is_empty.ensures c.if-is_empty.false) (rw c.in-Token.is at c.in_ok-command_at.ensures.sort)
    (rw c.in-Token.is at c.in_ok-command_at.ensures.place) (placed_ok _ _ c.in_ok-check_token-in-Token.ensures)

pub returns-then-at-gt0 : goal.returns-then-at-gt0
returns-then-at-gt0 c =
    second-root _ _ c.loop-at.invariant (none_open _ c.is_empty-in-Open.ensures c.if-is_empty-2.true) c.if-at-gt0.true (rw c.in-Open.is at c.in_ok-command_at.ensures.sort) _

pub returns-in_err-check_open-in-Open : goal.returns-in_err-check_open-in-Open
returns-in_err-check_open-in-Open c =
    let p = err_from_is_err_and c.from_residual-in_err-check_open-in-Open.result c.from_residual-in_err-check_open-in-Open.ensures.1 in
    rw (p.1, p.2)
    (open-told _ _ c.loop-at.invariant (elim c.else-is_empty-2.branch [ else-is_empty-2-via-then-is_empty-2+else-at-gt0 w ↦ λ _. omega arith | else-is_empty-2-via-else-is_empty-2 w ↦ λ z. absurd (some_open _ c.is_empty-in-Open.ensures w.if-is_empty-2.false z) ])
    (rw c.in-Open.is at c.in_ok-command_at.ensures.sort) (rw c.in-Open.is at c.in_ok-command_at.ensures.place) (c.len.ensures.value ∙ sym (length-reverse _))
    c.in_err-check_open-in-Open.ensures _)

pub note_open-requires : goal.note_open-requires
note_open-requires c =
    let room : c.loop-at.at < 11 * length c.loop-at.facts = omega (arith, c.loop-at.invariant.same, c.requires.1, c.loop-at-test.true) in
    let around = (c.copied.ensures ∙ c.last.ensures.value ∙ ap (λ (xs : List ℕ). slice_get xs (length xs - 1)) c.as_slice.ensures.value ∙ last-innermost c.loop-at.open.items) in
    (omega (arith, room), subst (λ (o : Option ℕ). IfSome o (λ q. q < length c.loop-at.facts)) (sym around) (innermost_fits _ _ _ c.loop-at.invariant.behind room))

pub push-requires : goal.push-requires
push-requires c =
    let low : length c.loop-at.open.items < 64 = omega (arith, open_low _ _ c.in-Open.node (placed_ok _ _ c.in_ok-check_open-in-Open.ensures), c.len.ensures.value) in
    (omega arith, low)

pub loop-at-preserved : goal.loop-at-preserved
loop-at-preserved c =
    next-open-last _ _ _ _ c.loop-at.invariant (elim c.else-is_empty-2.branch [ else-is_empty-2-via-then-is_empty-2+else-at-gt0 w ↦ λ _. omega arith | else-is_empty-2-via-else-is_empty-2 w ↦ λ z. absurd (some_open _ c.is_empty-in-Open.ensures w.if-is_empty-2.false z) ])
    (rw c.in-Open.is at c.in_ok-command_at.ensures.sort) (rw c.in-Open.is at c.in_ok-command_at.ensures.place) (c.len.ensures.value ∙ sym (length-reverse _))
    (placed_ok _ _ c.in_ok-check_open-in-Open.ensures) (c.copied.ensures ∙ c.last.ensures.value ∙ ap (λ (xs : List ℕ). slice_get xs (length xs - 1)) c.as_slice.ensures.value ∙ last-innermost c.loop-at.open.items) c.note_open.ensures c.push.ensures.items

pub returns-then-not-is_empty : goal.returns-then-not-is_empty
returns-then-not-is_empty c =
    elim c.then-not-is_empty.branch [
      | then-not-is_empty-via-then-not-is_empty w ↦ end-open _ _ c.loop-at.invariant c.loop-at-test.false (some_open _ c.is_empty-2.ensures w.if-not-is_empty.true) _
      | then-not-is_empty-via-else-not-is_empty+then-is_empty-3 w ↦ no_root _ _ (eqb-true _ 0 (sym w.is_empty-else-not-is_empty.ensures ∙ w.if-is_empty-3.true)) _
    ]

pub returns : goal.returns
returns c =
    let some = eqb-false _ 0 (sym c.is_empty-else-not-is_empty.ensures ∙ c.if-is_empty-3.false) in
    end-root _ _ c.loop-at.invariant c.loop-at-test.false c.requires.1 (none_open _ c.is_empty-2.ensures c.if-not-is_empty.false) (λ z. some (omega arith))
