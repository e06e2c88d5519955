use Rattle.std.proofs.Common.{◌≡◌, ℕ, ◌<◌, get_or}
use Rattle.history.specs.Records.{wait}
use Rattle.broker.specs.Reading.{records_of}
use Rattle.broker.proofs.state.Broker.write_waits.Given as goal

abbrev pub invariant-loop-site : goal.invariant-loop-site
invariant-loop-site g l = (i : ℕ) → i < l.site → get_or l.place-items i 0 ≡ wait g.M.Manager (records_of l.self) i
