-- `calls_agree` meets its contract.
use mathlib.Core.Path.{ap, ◌∙◌}
use lib.ListN.{length}
use Rattle.layout.specs.Layout.{original}
use Rattle.layout.specs.Outcome.{outcome, laid_out}
use Rattle.replay_list.proofs.Agreeing.{compares}
use Rattle.replay_list.proofs.agree.calls_agree.Goals as goal

pub returns : goal.returns
returns c =
    let a = c.args in
    let o = outcome original a.head.width a.head.case a.text.now a.tape.now in
    let m = c.from-in_no_space in
    let r = c.from-answer in
    compares o a.head.number a.head.value a.expected.now (length a.out.now) m.result r.result c.layout.new.out c.layout-2.new.out _ _ _ _
    (rw m.ensures c.layout.ensures)
    (rw r.ensures (c.layout-2.ensures ∙ ap (laid_out o) (c.fill.ensures.after (λ y e. e))))
    c.no_space_number.ensures c.eq-same_in_no_space.ensures c.eq-same_in_space.ensures c.same_space.ensures
