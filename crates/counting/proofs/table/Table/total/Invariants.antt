use Rattle.std.proofs.Common.{◌≡◌, ◌+◌, ◌*◌, ◌≤◌}
use Rattle.counting.specs.Tables.{before}
use Rattle.counting.proofs.table.Table.total.Given as goal

-- What was passed is counted, and it is small.
abbrev pub invariant-loop-at : goal.invariant-loop-at
invariant-loop-at g l = record { counted : l.count ≡ before (g.Self.Table.cells l.self) (g.Self.Table.side l.self) l.at 0; small : l.count ≤ 32 * l.at }

abbrev pub invariant-loop-column : goal.invariant-loop-column
invariant-loop-column g l = record { counted : l.count ≡ before (g.Self.Table.cells l.self) (g.Self.Table.side l.self) l.at l.column; small : l.count ≤ 32 * l.at + 2 * l.column }
