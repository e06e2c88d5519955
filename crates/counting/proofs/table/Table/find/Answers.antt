use Rattle.std.proofs.Common.{arith}
use Rattle.counting.proofs.Tables.{before_next_row}
use Rattle.counting.proofs.table.Table.find.Goals as goal

pub loop-at-preserved : goal.loop-at-preserved
loop-at-preserved g c =
    let next = before_next_row (g.Self.Table.cells c.args.self.now) (g.Self.Table.side c.args.self.now) c.loop-at.at c.loop-column.column (omega arith) in
    omega (arith, next, c.loop-column.invariant)
