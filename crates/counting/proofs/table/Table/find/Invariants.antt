use Rattle.std.proofs.Common.{◌≡◌, ◌+◌}
use Rattle.counting.specs.Tables.{before}
use Rattle.counting.proofs.table.Table.find.Given as goal

-- What is left is what was asked for less what was passed.
abbrev pub invariant-loop-at : goal.invariant-loop-at
invariant-loop-at g l = l.left + before (g.Self.Table.cells l.self) (g.Self.Table.side l.self) l.at 0 ≡ l.before

abbrev pub invariant-loop-column : goal.invariant-loop-column
invariant-loop-column g l = l.left + before (g.Self.Table.cells l.self) (g.Self.Table.side l.self) l.at l.column ≡ l.before
