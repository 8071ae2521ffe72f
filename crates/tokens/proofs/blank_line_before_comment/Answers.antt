-- `blank_line_before_comment` meets its contract.
use mathlib.Core.Path.{◌≡◌, sym, ap, ◌∙◌}
use mathlib.Core.Bool.{Bool, not, ◌&&◌}
use Rattle.context.specs.Context.{take_pending_blank_line}
use Rattle.layout.specs.Layout.{do_spacing, newline_if}
use Rattle.tokens.proofs.Runs.{start_is, newline-step, step-after}
use Rattle.tokens.proofs.blank_line_before_comment.Goals.{then-taken, else-taken}
use Rattle.tokens.proofs.blank_line_before_comment.Goals as goal

pub returns : goal.returns
unfolding do_spacing
returns c =
    let t = c.take_pending_blank_line-taken.ensures in
    let next = take_pending_blank_line c.args.ctx.state in
    let wanted : (next.0 && not next.1.at_line_start) ≡ c.if-taken.newline_if =
    elim c.if-taken.branch [
      | then-taken w ↦ rw (sym t.mark ∙ w.if-taken.true, start_is t.context w.is_at_line_start.ensures) (sym w.newline_if-is)
      | else-taken w ↦ rw (sym t.mark ∙ w.if-taken.false) (sym (w.newline_if-is ∙ w.if-taken.false))
    ] in
    step-after (newline_if _) (ap (λ (b : Bool). newline_if b next.1) wanted) t.context (newline-step _ c.newline_if.ensures)
