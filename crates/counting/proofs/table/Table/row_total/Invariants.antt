use Rattle.std.proofs.Common.{◌≡◌, ◌*◌, ◌≤◌}
use Rattle.counting.specs.Tables.{row}
use Rattle.counting.proofs.table.Table.row_total.Given as goal

abbrev pub invariant-loop-column : goal.invariant-loop-column
invariant-loop-column g l = record { counted : l.count ≡ row (g.Self.Table.cells l.self) l.column l.at; small : l.count ≤ 2 * l.column }
