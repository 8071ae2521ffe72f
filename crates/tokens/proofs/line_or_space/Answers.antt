-- `line_or_space` meets its contract.
use native.Mathlib.Omega.{arith}
use mathlib.Core.Path.{◌∙◌, refl, sym}
use Rattle.tokens.proofs.Runs.{changed, changed_after, spaced, start_is, newline-step, step-after}
use Rattle.context.specs.Context.{write_space}
use Rattle.layout.specs.Arms.{line_or_space}
use Rattle.layout.specs.Layout.{do_spacing, newline_if}
use Rattle.tokens.proofs.line_or_space.Goals as goal

pub returns-then-taken : goal.returns-then-taken
unfolding do_spacing
returns-then-taken c =
    let t = c.take_pending_newline-taken.ensures in
    step-after (newline_if _) (rw (sym t.mark ∙ c.if-taken.true, start_is t.context c.is_at_line_start.ensures)) t.context (newline-step _ c.newline_if.ensures)

pub returns-else-taken : goal.returns-else-taken
unfolding do_spacing
returns-else-taken c =
    let t = c.take_pending_newline-taken.ensures in
    spaced 1 _ (omega arith) refl (changed line_or_space (rw (sym t.mark ∙ c.if-taken.false)) (changed_after write_space t.context c.write_space.ensures))
