use Rattle.std.proofs.Common.{sym}
use Rattle.ricart_agrawala.specs.Reading.{state_of}
use Rattle.ricart_agrawala.proofs.Replying.{last_reply, early_reply}
use Rattle.ricart_agrawala.proofs.state.RicartAgrawala.receive_reply.Goals as goal

pub returns-then-is_served : goal.returns-then-is_served
returns-then-is_served c =
    let both = last_reply (state_of c.args.self.now) (state_of c.note_reply.new.self) c.args.sender c.args.receiver c.note_reply.ensures (state_of c.hold.new.self) (sym c.if-is_served.ensures) c.hold.ensures in
    record { state = both.0; grant = both.1 }

pub returns-else-is_served : goal.returns-else-is_served
returns-else-is_served c =
    let both = early_reply (state_of c.args.self.now) (state_of c.note_reply.new.self) c.args.sender c.args.receiver c.note_reply.ensures (sym c.if-is_served.ensures) in
    record { state = both.0; grant = both.1 }
