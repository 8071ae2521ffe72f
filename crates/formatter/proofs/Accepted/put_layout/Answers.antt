-- `put_layout` meets its contract.
use Rattle.formatter.proofs.Entries.{copied}
use Rattle.formatter.proofs.Accepted.put_layout.Goals as goal

pub copy_layout-requires : goal.copy_layout-requires
copy_layout-requires c = (c.if-k-space.true, c.requires.trims.3)

pub returns-then-k-space : goal.returns-then-k-space
returns-then-k-space c = let p = c.requires in copied c.args.k p.trims.0 p.trims.2 p.trims.3 p.trims.1 c.if-k-space.true c.copy_layout.ensures

pub write_layout-requires : goal.write_layout-requires
write_layout-requires c = let p = c.requires in record { ready = p.ready; trims = (p.trims.0, p.trims.2, p.trims.3) }

pub returns : goal.returns
returns c = c.write_layout.ensures.fills
