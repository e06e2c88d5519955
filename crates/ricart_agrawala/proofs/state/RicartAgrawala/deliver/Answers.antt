use Rattle.std.proofs.Common.{sym}
use Rattle.std.proofs.lemmas.Bool.{ltb-true, ltb-false}
use Rattle.ricart_agrawala.specs.Reading.{state_of}
use Rattle.ricart_agrawala.proofs.Delivery.{request_delivered, reply_delivered}
use Rattle.ricart_agrawala.proofs.state.RicartAgrawala.deliver.Goals as goal

pub returns-then-is_request : goal.returns-then-is_request
returns-then-is_request c =
    let at = c.in_ok-sender in
    let first = ltb-true _ _ (sym c.if-is_request.ensures.is_true_of_the_first) in
    request_delivered (state_of c.args.self.now) c.args.k at.field-0 at.ensures.finds_the_thing _ first c.receive_request.ensures

pub returns-else-is_request : goal.returns-else-is_request
returns-else-is_request c =
    let at = c.in_ok-sender in
    let later = ltb-false _ _ (sym c.if-is_request.ensures.is_true_of_the_first) in
    let came = c.receive_reply.ensures in
    reply_delivered (state_of c.args.self.now) c.args.k at.field-0 at.ensures.finds_the_thing _ _ later came.state came.grant
