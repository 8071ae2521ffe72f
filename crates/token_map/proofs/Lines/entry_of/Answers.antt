-- `entry_of` meets its contract: by the line that the place's offset is in.
use Rattle.std.proofs.Common.{sym, ap, arith}
use Rattle.layout.specs.Lines as lines
use Rattle.token_map.proofs.Counting.{entry-in}
use Rattle.token_map.proofs.Lines.entry_of.Goals as goal

pub returns-clause-line : goal.returns-clause-line
returns-clause-line c =
    let g = c.go_to.ensures in
    let line = rw g.same at c.go_to.new.self.is_line in
    ap (λ (s : lines.Spot). s.line) (sym (entry-in c.args.k c.args.place _ line c.if-p-eq0.false (omega arith) c.min-at.ensures g.start g.end))

pub returns-clause-column : goal.returns-clause-column
returns-clause-column c =
    let g = c.go_to.ensures in
    let line = rw g.same at c.go_to.new.self.is_line in
    ap (λ (s : lines.Spot). s.column) (sym (entry-in c.args.k c.args.place _ line c.if-p-eq0.false (omega arith) c.min-at.ensures g.start g.end))
