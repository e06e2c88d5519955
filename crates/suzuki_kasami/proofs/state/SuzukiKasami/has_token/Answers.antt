use Rattle.suzuki_kasami.specs.Reading.{state_of}
use Rattle.suzuki_kasami.proofs.Seeking.{token_at}
use Rattle.suzuki_kasami.proofs.state.SuzukiKasami.has_token.Goals as goal

pub returns-in-At : goal.returns-in-At
returns-in-At c = token_at (state_of c.args.self.now) c.in-At.place c.args.site c.in-At.is
