-- What a call on a broker answers and leaves: it is one step of a history. Assumes nothing.
use Rattle.std.specs.Prelude.{◌≡◌, List, [], Err, Result}
use Rattle.manager.specs.Answers.{answer}
use Rattle.manager.specs.Kinds.{Kind}
use Rattle.manager.specs.declared.refusal.Refusal.{Refusal}
use Rattle.history.specs.Calls.{Call, refusal}
use Rattle.history.specs.Histories.{Performed}
use Rattle.history.specs.Records.{under}
use Rattle.history.specs.declared.Grant.{Grant}
use Rattle.broker.specs.Reading.{records_of}
use Rattle.broker.specs.declared.state.Broker.{Broker}

-- The call on broker b granted the resource so, left broker c and answered r. It gives the value unless it is refused, and
-- a refused call leaves everything as found.
pub record Outcome {S A : Type 0} (kind : Kind S) (b : Broker S) (call : Call) (grants : List Grant) (c : Broker S) (value : A) (r : Result A Refusal) : Type 0 where
  pub answers : r ≡ answer (refusal (under kind (records_of b)) call) value
  pub performed : Performed kind (records_of b) call grants (records_of c)
  pub leaves : (e : Refusal) → r ≡ Err e → (c ≡ b) × (grants ≡ [])
