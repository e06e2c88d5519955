-- The calls on a broker: when each is refused or stops, and what it does. Assumes nothing.
use Rattle.std.specs.Prelude.{◌≡◌, ℕ, ◌+◌, ◌-◌, ◌<◌, cond, List, [], ◌∷◌, ◌++◌, length, Some, None, Option}
use Rattle.manager.specs.Kinds.{Kind}
use Rattle.manager.specs.Meaning.{Meaning}
use Rattle.manager.specs.Refusals.{due, tried, refused, site_order, ask_order, free_order, step_order}
use Rattle.manager.specs.declared.refusal.Refusal.{Refusal}
use Rattle.manager.specs.declared.refusal.Refusal.TheVariants.{RollFull, ShortWaitList, LimitReached}
use Rattle.history.specs.Records.{Records, under, after_ask, after_free, after_step, grants_by_ask, grants_by_step}
use Rattle.history.specs.declared.Grant.{Grant}

-- A call, with the site or thing that it names and the room that the caller lends: free places in the grant roll, or
-- places in the wait list. A drain is given how many steps it may take.
pub data Call : Type 0 where
  start : (site : ℕ) → Call
  ask : (site room : ℕ) → Call
  free : (site : ℕ) → Call
  step : (thing room : ℕ) → Call
  drain : (bound room : ℕ) → Call
  write_waits : (places : ℕ) → Call
  question : Call

-- Ask and step try the full roll last, whether or not a grant would come.
abbrev pub ask_refusal : Meaning → (site room : ℕ) → Option Refusal
ask_refusal m site room = tried (ask_order ++ (RollFull ∷ [])) m site room

abbrev pub step_refusal : Meaning → (thing room : ℕ) → Option Refusal
step_refusal m thing room = tried (step_order ++ (RollFull ∷ [])) m thing room

abbrev pub waits_refusal : Meaning → (places : ℕ) → Option Refusal
waits_refusal m places = tried (ShortWaitList ∷ []) m 0 places

-- Why a drain with something under way goes no further: its bound is used up, or step 0 is refused.
abbrev pub drain_refusal : Meaning → (bound room : ℕ) → Option Refusal
drain_refusal m bound room = cond (due LimitReached m 0 bound) (Some LimitReached) (step_refusal m 0 room)

-- Why a call is refused whole, if it is. A drain is not refused: it stops.
abbrev pub refusal : Meaning → Call → Option Refusal
refusal m (start site) = refused site_order m site
refusal m (ask site room) = ask_refusal m site room
refusal m (free site) = refused free_order m site
refusal m (step thing room) = step_refusal m thing room
refusal m (drain bound room) = None
refusal m (write_waits places) = waits_refusal m places
refusal m question = None

-- How many asks, frees and steps were carried out.
pub record Done : Type 0 where
  pub asks : ℕ
  pub frees : ℕ
  pub steps : ℕ

abbrev pub done : (asks frees steps : ℕ) → Done
done asks frees steps = record { asks = asks; frees = frees; steps = steps }

abbrev pub ◌and◌ : Done → Done → Done
d and e = done (d.asks + e.asks) (d.frees + e.frees) (d.steps + e.steps)

infixl 60 ◌and◌
module _ {S : Type 0} (kind : Kind S) where
  -- A drain carries out step 0 while something is under way. It takes so many steps, grants the resource so, and ends
  -- with nothing under way or stops for a reason.
  pub data Drained : Records S → (bound room : ℕ) → (taken : ℕ) → List Grant → Option Refusal → Records S → Type 0 where
    finished : {b : Records S} {bound room : ℕ} → (under kind b).underway ≡ 0 → Drained b bound room 0 [] None b
    stopped : {b : Records S} {bound room : ℕ} (r : Refusal) → 0 < (under kind b).underway → drain_refusal (under kind b) bound room ≡ Some r → Drained b bound room 0 [] (Some r) b
    carried : {b : Records S} {bound room taken : ℕ} {gs : List Grant} {why : Option Refusal} {c : Records S} (g : Option ℕ) (m : S) →
        0 < (under kind b).underway → drain_refusal (under kind b) bound room ≡ None → kind.steps b.manager 0 g m →
        Drained (after_step kind b m) (bound - 1) (room - length (grants_by_step kind b g)) taken gs why c →
        Drained b bound room (taken + 1) (grants_by_step kind b g ++ gs) why c

  -- One call on a broker: what it carried out, the grants that it added to the roll, and the broker after it. A refused
  -- call does nothing. (A start that is accepted begins a new history.)
  pub data Does (b : Records S) : Call → Done → List Grant → Records S → Type 0 where
    is_refused : {c : Call} (r : Refusal) → refusal (under kind b) c ≡ Some r → Does b c (done 0 0 0) [] b
    asks : (i room : ℕ) (m : S) → refusal (under kind b) (ask i room) ≡ None → kind.asks b.manager i m → Does b (ask i room) (done 1 0 0) (grants_by_ask kind i m) (after_ask kind b i m)
    frees : (i : ℕ) (m : S) → refusal (under kind b) (free i) ≡ None → kind.frees b.manager i m → Does b (free i) (done 0 1 0) [] (after_free kind b m)
    steps : (k room : ℕ) (g : Option ℕ) (m : S) → refusal (under kind b) (step k room) ≡ None → kind.steps b.manager k g m → Does b (step k room) (done 0 0 1) (grants_by_step kind b g) (after_step kind b m)
    drains : {bound room taken : ℕ} {gs : List Grant} {why : Option Refusal} {c : Records S} → Drained b bound room taken gs why c → Does b (drain bound room) (done 0 0 taken) gs c
    writes_waits : (places : ℕ) → refusal (under kind b) (write_waits places) ≡ None → Does b (write_waits places) (done 0 0 0) [] b
    answers : Does b question (done 0 0 0) [] b
