-- `context::Position::after_byte` meets its contract.
use mathlib.Core.Path.{◌≡◌, refl, sym, ap, ◌∙◌}
use mathlib.Core.Bool.{Bool, true, false, cond}
use mathlib.Core.List.{[], ◌∷◌}
use Prim.Native.Nat.{ℕ, ◌+◌}
use Rattle.utf8.specs.Trimming.{trimmed_after, trimmed_length, is_white_byte}
use Rattle.utf8.proofs.Trimming.{trimmed-one}
use Rattle.context.proofs.Writes.{advanced-blanks}
use Rattle.context.proofs.Position.after_byte.Goals as goal
use Rattle.context.proofs.Position.after_byte.Goals.{then-is_white_byte, else-is_white_byte}

one_byte : (b : ℕ) (t : Bool) → is_white_byte b ≡ t → trimmed_length (b ∷ []) ≡ cond t 0 1
one_byte b t e = trimmed-one b ∙ ap (λ (w : Bool). cond w 0 1) e

pub returns : goal.returns
returns c =
    let a = c.args in
    let w = c.is_white_byte.ensures in
    let left : c.if-is_white_byte.left ≡ trimmed_length (a.b ∷ []) =
    elim c.if-is_white_byte.branch [
      | then-is_white_byte t ↦ t.left-is ∙ sym (one_byte a.b true (sym w ∙ t.if-is_white_byte.true))
      | else-is_white_byte t ↦ t.left-is ∙ sym (one_byte a.b false (sym w ∙ t.if-is_white_byte.false))
    ] in
    c.after_text.ensures ∙ advanced-blanks a.blanks (a.b ∷ []) a.self _ _ refl (ap (trimmed_after (a.self.length + a.blanks) a.self.trimmed) left)
