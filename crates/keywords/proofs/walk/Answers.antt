-- `walk` meets its contract: where the candidate is not equal no entry is.
use mathlib.Core.Path.{sym, ap, ◌∙◌}
use Prim.Native.Nat.{ℕ}
use Rattle.std.specs.Bool.{then_some}
use Rattle.keywords.proofs.Lookup.{candidate-stands, entry_or_none, no_entry}
use Rattle.keywords.proofs.WalkLaws.{walked}
use Rattle.keywords.proofs.walk.Goals as goal

pub returns-in_err-entry : goal.returns-in_err-entry
returns-in_err-entry c =
    let g = c.in_ok-word.ensures.lookup.0 in
    let w = c.in_ok-word.word.now in
    c.from_residual-in_err-entry.ensures ∙ sym (walked c.args.length c.args.bytes.now w g.1 g.2 ∙ no_entry w (sym c.candidate.ensures ∙ c.in_err-entry.was))

pub is_entry-requires : goal.is_entry-requires
is_entry-requires c = candidate-stands c.in_ok-word.word.now _ (sym c.candidate.ensures ∙ c.in_ok-entry.was)

pub returns : goal.returns
returns c =
    let g = c.in_ok-word.ensures.lookup.0 in
    let w = c.in_ok-word.word.now in
    let e = entry_or_none w c.in_ok-entry.entry _ (sym c.candidate.ensures ∙ c.in_ok-entry.was) c.is_entry.ensures in
    c.then_some.ensures ∙ ap (λ (n : ℕ). then_some c.is_entry.result n) c.from.ensures ∙ e ∙ sym (walked c.args.length c.args.bytes.now w g.1 g.2)
