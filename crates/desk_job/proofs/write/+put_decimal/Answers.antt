-- `put_decimal` meets its contract. The measure is the places left.
use mathlib.Core.Path.{◌∙◌}
use native.Mathlib.Omega.{arith}
use Rattle.desk_job.proofs.Writing.{decimal-last, decimal-more, decimal-none, same_length-of, within, wrote_nothing, wrote_then}
use Rattle.desk_job.proofs.write.+put_decimal.Goals as goal

pub returns-then-places-eq0 : goal.returns-then-places-eq0
returns-then-places-eq0 t c = rw (decimal-none c.args.places c.args.n c.if-places-eq0.true) (wrote_nothing c.args.at c.args.out.now c.requires)

pub overflow_cast-n : goal.overflow_cast-n
overflow_cast-n t c = omega arith

pub overflow_add-n : goal.overflow_add-n
overflow_add-n t c = omega arith

pub put-requires : goal.put-requires
put-requires t c = c.requires

pub shape_of-out-then-n-lt10 : goal.shape_of-out-then-n-lt10
shape_of-out-then-n-lt10 t c = same_length-of c.args.at _ c.args.out.now c.put.ensures

pub returns-then-n-lt10 : goal.returns-then-n-lt10
returns-then-n-lt10 t c = rw (decimal-last c.args.places c.args.n c.if-places-eq0.false c.if-n-lt10.true) c.put.ensures

pub overflow_sub-places : goal.overflow_sub-places
overflow_sub-places t c = omega (arith, c.if-places-eq0.false)

pub put_decimal-end-requires : goal.put_decimal-end-requires
put_decimal-end-requires t c = (omega (arith, c.decreases, c.if-places-eq0.false), c.requires)

pub overflow_cast-n-2 : goal.overflow_cast-n-2
overflow_cast-n-2 t c = omega arith

pub overflow_add-n-2 : goal.overflow_add-n-2
overflow_add-n-2 t c = omega arith

pub put-requires-2 : goal.put-requires-2
put-requires-2 t c = within c.args.at _ c.args.out.now c.put_decimal-end.ensures

pub shape_of-out : goal.shape_of-out
shape_of-out t c = same_length-of _ _ _ c.put-2.ensures ∙ same_length-of c.args.at _ c.args.out.now c.put_decimal-end.ensures

pub returns : goal.returns
returns t c = rw (decimal-more c.args.places c.args.n c.if-places-eq0.false c.if-n-lt10.false) (wrote_then c.args.at _ _ c.args.out.now c.put_decimal-end.ensures c.put-2.ensures)
