use Rattle.std.proofs.Common.{sym}
use Rattle.gateway.specs.Automaton.{link}
use Rattle.gateway.proofs.Moved.{due_advances}
use Rattle.gateway.proofs.state.Gateway.advance.Goals as goal

pub returns : goal.returns
returns g c = record { advances_or_refuses = due_advances g.I.Manager g.O.Manager c.args.post c.args.island.now c.args.outer.now (link c.go_on.new.self c.go_on.new.island c.go_on.new.outer) c.args.self.now c.go_on.result (sym c.if-not-is_due.ensures.tells_whether_a_move_is_due) c.go_on.ensures.goes_or_refuses }
