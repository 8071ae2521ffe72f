-- `blank_line` meets its contract.
use mathlib.Core.Path.{sym, ap}
use mathlib.Core.Bool.{Bool}
use Rattle.context.specs.Context.{take_pending_blank_line}
use Rattle.layout.specs.Layout.{do_spacing, newline_if}
use Rattle.tokens.proofs.Runs.{newline-step, step-after}
use Rattle.tokens.proofs.blank_line.Goals as goal

pub returns : goal.returns
unfolding do_spacing
returns c = let t = c.take_pending_blank_line-taken.ensures in step-after (newline_if _) (ap (λ (b : Bool). newline_if b (take_pending_blank_line c.args.ctx.state).1) (sym t.mark)) t.context (newline-step _ c.newline_if.ensures)
