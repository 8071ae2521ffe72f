-- `walk_from` meets its contract: an entry that is equal is the only one.
use mathlib.Core.Path.{sym, ap, ◌∙◌}
use Rattle.std.specs.Prelude.{Some}
use Rattle.keywords.proofs.Lookup.{this_entry}
use Rattle.keywords.proofs.WalkLaws.{walked}
use Rattle.keywords.proofs.walk_from.Goals as goal

pub returns-then-is_entry : goal.returns-then-is_entry
returns-then-is_entry c =
    let g = c.in_ok-get.ensures.lookup.0 in
    let w = c.in_ok-get.field-0.now in
    ap Some c.from.ensures ∙ sym (walked c.args.size c.args.bytes.now w g.1 g.2 ∙ this_entry w c.args.entry c.requires (sym c.is_entry.ensures ∙ c.if-is_entry.true))
