-- `open_finding` meets its contract: each answer by the tests that led to it.
use mathlib.Core.Path.{sym, ap, ◌∙◌}
use mathlib.Core.Bool.{cond}
use Rattle.tape.specs.declared.Fault.TheVariants.{TooDeep}
use Rattle.std.specs.Prelude.{Err}
use Rattle.tape.specs.Tape.{tests_of, check_open, no_fault}
use Rattle.tape.proofs.KnownCommands.{NodePasses, span-passes, no_span_passes, open_rest}
use borrow.Author.Tests.{lt-ltb, le-ltb, le-leb, lt-leb, not-true, not-false}
use Rattle.tape.proofs.commands.WellFormedText.open_finding.Goals as goal
use Rattle.tape.proofs.commands.WellFormedText.open_finding.Goals.{else-h, then-h+else-self-h+else-not-at_bounds}

pub returns-then-h-gt-ERROR_MAX_QUERY_SIZE_EXCEEDED : goal.returns-then-h-gt-ERROR_MAX_QUERY_SIZE_EXCEEDED
unfolding check_open
returns-then-h-gt-ERROR_MAX_QUERY_SIZE_EXCEEDED c = rw (lt-ltb _ _ c.if-h-gt-ERROR_MAX_QUERY_SIZE_EXCEEDED.true)

pub returns-then-not_carried : goal.returns-then-not_carried
unfolding check_open
returns-then-not_carried c = rw (le-ltb _ _ c.if-h-gt-ERROR_MAX_QUERY_SIZE_EXCEEDED.false, ← c.not_carried.ensures, c.if-not_carried.true)

pub returns-then-self-h : goal.returns-then-self-h
unfolding check_open
returns-then-self-h c = rw (le-ltb _ _ c.if-h-gt-ERROR_MAX_QUERY_SIZE_EXCEEDED.false, ← c.not_carried.ensures, c.if-not_carried.false, le-leb _ _ c.if-h.true, lt-ltb _ _ c.if-self-h.true)

pub returns-then-not-at_bounds : goal.returns-then-not-at_bounds
unfolding check_open
returns-then-not-at_bounds c =
    let inside = not-false ((tests_of c.args.self.text.now).inside_character c.args.h) (sym c.at_bounds.ensures ∙ c.if-not-at_bounds.true) in
    rw (le-ltb _ _ c.if-h-gt-ERROR_MAX_QUERY_SIZE_EXCEEDED.false, ← c.not_carried.ensures, c.if-not_carried.false, le-leb _ _ c.if-h.true, le-ltb _ _ c.if-self-h.false, inside)

pub returns-then-depth-lt64 : goal.returns-then-depth-lt64
returns-then-depth-lt64 c =
    let tests = tests_of c.args.self.text.now in
    let passes : NodePasses tests c.args.h =
    (elim c.if-h.branch [ then-h+else-self-h+else-not-at_bounds w ↦ span-passes tests c.args.h w.if-self-h.false (not-true (tests.inside_character c.args.h) (sym w.at_bounds.ensures ∙ w.if-not-at_bounds.false)) | else-h w ↦ no_span_passes tests c.args.h w.if-h.false ]) in
    sym (open_rest tests c.args.depth c.args.h c.if-h-gt-ERROR_MAX_QUERY_SIZE_EXCEEDED.false (sym c.not_carried.ensures ∙ c.if-not_carried.false) passes ∙ ap (λ t. cond t (Err TooDeep) no_fault) (lt-leb _ _ c.if-depth-lt64.true))

pub returns : goal.returns
returns c =
    let tests = tests_of c.args.self.text.now in
    let passes : NodePasses tests c.args.h =
    (elim c.if-h.branch [ then-h+else-self-h+else-not-at_bounds v ↦ span-passes tests c.args.h v.if-self-h.false (not-true (tests.inside_character c.args.h) (sym v.at_bounds.ensures ∙ v.if-not-at_bounds.false)) | else-h v ↦ no_span_passes tests c.args.h v.if-h.false ]) in
    sym (open_rest tests c.args.depth c.args.h c.if-h-gt-ERROR_MAX_QUERY_SIZE_EXCEEDED.false (sym c.not_carried.ensures ∙ c.if-not_carried.false) passes ∙ ap (λ t. cond t (Err TooDeep) no_fault) (le-leb _ _ c.if-depth-lt64.false))
