-- `context::buffer::copy_first` meets its contract: so many bytes take the place of the front.
use mathlib.Core.Path.{sym, ◌∙◌}
use native.Mathlib.Omega.{arith}
use lib.ListN.{take}
use lib.Seq.{take_all, length-take-le}
use Rattle.context.proofs.Splicing.{splice-front}
use Rattle.context.proofs.buffer.copy_first.Goals as goal

pub returns : goal.returns
returns g c =
    let n = g.row.N in
    let ps = c.args.text.now in
    let l = length-take-le n ps c.requires.1 in
    splice-front (take n ps) c.args.out.now _ n (omega (arith, l)) (c.copy_from_slice-2.ensures.after ∙ c.copy_from_slice.ensures.after ∙ sym (take_all n (take n ps) (omega (arith, l))))
