use Rattle.suzuki_kasami.specs.Reading.{state_of}
use Rattle.suzuki_kasami.proofs.Delivery.{request_delivered, token_delivered}
use Rattle.suzuki_kasami.proofs.state.SuzukiKasami.deliver.Goals as goal

pub returns-in-Some : goal.returns-in-Some
returns-in-Some c =
    request_delivered c.args.self.now c.args.k c.in-Some.spot (state_of c.receive.new.self) c.in-Some.ensures.finds_the_thing c.receive.ensures

pub returns : goal.returns
returns c =
    token_delivered (state_of c.args.self.now) c.args.k c.in-Sent.site (state_of c.arrive.new.self) c.in-Sent.is
    c.in_default.ensures.finds_the_thing c.requires.0 c.arrive.ensures
