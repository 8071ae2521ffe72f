-- `note_none` meets its contract. The invariant: so many tokens are noted.
use Rattle.std.proofs.Common.{◌∙◌, ap, replicate, add-one, rules, tests}
use Rattle.token_map.specs.Notes.{noted}
use Rattle.token_map.proofs.Noting.{note_all-none, note_all-more}
use Rattle.token_map.proofs.note_none.Goals as goal

pub returns-then-is_empty : goal.returns-then-is_empty
returns-then-is_empty c = note_all-none (replicate c.args.tokens 0) _ (search (rules, tests))

pub loop-preserved : goal.loop-preserved
loop-preserved c =
    let l = c.loop in
    rw add-one (c.note_place.ensures ∙ ap (noted 0) l.invariant ∙ note_all-more l.counter c.args.map.now)
