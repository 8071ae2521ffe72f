-- `walk_tree` meets its contract.
use Rattle.formatter.proofs.Entries.{root-ready, walked_into}
use Rattle.formatter.proofs.Accepted.walk_tree.Goals as goal

pub head_at-root-requires : goal.head_at-root-requires
head_at-root-requires c = c.requires.accepted.root.inside

pub node-w-requires : goal.node-w-requires
node-w-requires c = root-ready c.requires c.head_at-root.ensures c.new.ensures

pub returns : goal.returns
returns c = walked_into c.requires c.new.ensures c.node-w.ensures
