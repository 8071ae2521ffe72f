-- `layout` meets its contract.
use native.Mathlib.Omega.{arith}
use Rattle.formatter.proofs.Entries.{holds, laid_done, laid_none, laid-short}
use Rattle.formatter.specs.Entry.{all_cells}
use Rattle.layout.specs.Layout.{format}
use Rattle.formatter.proofs.Accepted.layout.Goals as goal

pub returns-then-k-eq0 : goal.returns-then-k-eq0
unfolding format
returns-then-k-eq0 c = let a = c.args in let w = c.walk_tree-k in record { all = λ t p q. laid_none (all_cells a.self.config a.self.text.now t) w.result (w.ensures.trims.all t p q) a.out.now c.if-k-eq0.true }

pub returns-then-out-k : goal.returns-then-out-k
unfolding format
returns-then-out-k c = let a = c.args in let w = c.walk_tree-k in record { all = λ t p q. laid-short (all_cells a.self.config a.self.text.now t) w.result (w.ensures.trims.all t p q) a.out.now c.if-k-eq0.false c.if-out-k.true }

pub put_layout-requires : goal.put_layout-requires
put_layout-requires c = let w = c.walk_tree-k in record { ready = c.requires; trims = (w.ensures.trims, holds w.ensures w.auto.space, omega (arith, c.if-k-eq0.false), omega (arith, c.if-out-k.false)) }

pub returns : goal.returns
unfolding format
returns c = let a = c.args in let w = c.walk_tree-k in record { all = λ t p q. laid_done (all_cells a.self.config a.self.text.now t) w.result (w.ensures.trims.all t p q) a.out.now _ c.if-k-eq0.false (omega (arith, c.if-out-k.false)) (c.put_layout.ensures.all t p q) }
