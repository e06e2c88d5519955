-- A broker's fields, read as what a broker keeps. Assumes nothing.
use Rattle.std.specs.Prelude.{slice_index}
use Rattle.history.specs.Records.{Records}
use Rattle.broker.specs.declared.state.Broker.{Broker}

abbrev pub records_of : {S : Type 0} → Broker S → Records S
records_of b = record { manager = b.manager; asks = b.totals.asks; frees = b.totals.frees; steps = b.totals.steps; asked = λ i. slice_index b.totals.asked i }
