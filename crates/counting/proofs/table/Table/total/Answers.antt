use Rattle.std.proofs.Common.{arith}
use Rattle.counting.proofs.Tables.{before_next_row}
use Rattle.counting.proofs.table.Table.total.Goals as goal

pub loop-at-preserved : goal.loop-at-preserved
loop-at-preserved g c =
    let next = before_next_row (g.Self.Table.cells c.args.self.now) (g.Self.Table.side c.args.self.now) c.loop-at.at c.loop-column.column (omega arith) in
    record { counted = omega (arith, next, c.loop-column.invariant); small = omega (arith, c.loop-column.invariant, (g.met.Self.Table.bounds c.args.self.now).few_rows) }
