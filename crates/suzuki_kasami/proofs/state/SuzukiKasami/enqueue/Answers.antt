use Rattle.std.proofs.Common.{arith}
use Rattle.std.proofs.lemmas.Bool.Decides.{nat_tests}
use Rattle.suzuki_kasami.proofs.Seeking.{queued_is}
use Rattle.suzuki_kasami.proofs.state.SuzukiKasami.enqueue.Goals as goal

pub returns-then-not-contains : goal.returns-then-not-contains
returns-then-not-contains c =
    let q = c.args.queue.now.items in
    grind (arith, nat_tests, queued_is c.args.other q)

pub returns-else-wants : goal.returns-else-wants
returns-else-wants c =
    let q = c.args.queue.now.items in
    grind (arith, nat_tests, queued_is c.args.other q)
