-- A drain half way: what it has done so far, and how what it does from here on makes the whole.
use Rattle.std.proofs.Common.{◌≡◌, ℕ, ◌+◌, ◌-◌, ◌<◌, Bool, true, false, not, eqb, ltb, List, [], ◌∷◌, ◌++◌}
use Rattle.std.proofs.Common.{length, set, Some, None, Ok, Option, sym, refl, ap, ◌∙◌, append_assoc, append-nil, arith, length-set}
use Rattle.std.proofs.lemmas.Bool.{cond-true, cond-false, lt-ltb, eq-eqb, ne_eqb, eqb-true, eqb-false, and_from, and_right}
use Rattle.std.proofs.lemmas.Option.{none-some}
use Rattle.std.specs.Bool.{then_some}
use Rattle.manager.specs.Kinds.{Kind, Obeys}
use Rattle.manager.specs.Refusals.{due}
use Rattle.manager.specs.declared.refusal.Refusal.{Refusal}
use Rattle.manager.specs.declared.refusal.Refusal.TheVariants.{LimitReached}
use Rattle.roll.specs.Contents.{room_of}
use Rattle.roll.specs.declared.list.Roll.{Roll}
use Rattle.history.specs.Calls.{Done, Does, Drained, drain, step, refusal, step_refusal, drain_refusal}
use Rattle.history.specs.Calls.Does.{is_refused, steps, drains}
use Rattle.history.specs.Calls.Drained.{finished, stopped, carried}
use Rattle.history.specs.Histories.{Performed}
use Rattle.history.specs.Records.{Records, Well, under, after_step, grants_by_step}
use Rattle.history.specs.declared.Grant.{Grant}
use Rattle.history.proofs.Every.{performed}
use Rattle.broker.specs.Outcome.{Outcome}
use Rattle.broker.specs.Reading.{records_of}
use Rattle.broker.specs.Rolling.{laid, Rolled}
use Rattle.broker.specs.declared.state.Broker.{Broker}
use Rattle.broker.specs.declared.state.DrainReport.{DrainReport}
use Rattle.broker.proofs.Answering.{accepted}
use Rattle.broker.proofs.Rolling.{rolled_onward}

laid_length : {T : Type 0} (memory : List T) (k : ℕ) (xs : List T) → length (laid memory k xs) ≡ length memory
laid_length memory k [] = refl
laid_length memory k (x ∷ xs) = laid_length (set memory k x) (k + 1) xs ∙ length-set memory k x

-- What the answer whether nothing is under way tells of the number.
module _ (quiet : Bool) (things : ℕ) (tells : quiet ≡ eqb things 0) where
  pub none_under_way : quiet ≡ true → things ≡ 0
  none_under_way is = eqb-true things 0 (sym tells ∙ is)

  pub some_under_way : quiet ≡ false → 0 < things
  some_under_way is = omega (arith, eqb-false things 0 (sym tells ∙ is))

-- What is added to a roll takes up its room.
pub room_left : {T : Type 0} (a b : Roll T) (xs : List T) → Rolled a b xs → room_of b ≡ room_of a - length xs
room_left a b xs r =
    let same : length b.items.now ≡ length a.items.now = ap length r.memory ∙ laid_length a.items.now a.len xs in
    omega (arith, r.len)

module _ {S : Type 0} (kind : Kind S) where
  -- A step that was not refused.
  stepped : {b c : Records S} {k room : ℕ} {d : Done} {gs : List Grant} → refusal (under kind b) (step k room) ≡ None → Does kind b (step k room) d gs c →
      (g : Option ℕ) × (m : S) × (kind.steps b.manager k g m) × (gs ≡ grants_by_step kind b g) × (c ≡ after_step kind b m)
  stepped free (is_refused r refused) = absurd (none-some r (sym free ∙ refused))
  stepped free (steps k room g m ok did) = (g, m, did, refl, refl)

  -- Short of its bound, a drain is refused as its next step is.
  busy_unstopped : (b : Records S) (left room : ℕ) → 0 < left → drain_refusal (under kind b) left room ≡ step_refusal (under kind b) 0 room
  busy_unstopped b left room more =
      let some : left ≡ 0 → ⊥ = λ z. omega arith in
      cond-false (due LimitReached (under kind b) 0 left) (Some LimitReached) (step_refusal (under kind b) 0 room)
      (and_right (ltb 0 (under kind b).underway) (eqb left 0) (ne_eqb left 0 some))

  -- How a drain ends: at its bound, whether or not something is still under way, or with a step refused.
  pub at_bound : (b : Records S) (left room : ℕ) (quiet : Bool) → left ≡ 0 → quiet ≡ eqb (under kind b).underway 0 →
      Drained kind b left room 0 [] (then_some (not quiet) LimitReached) b
  at_bound b left room true used tells = finished (none_under_way true (under kind b).underway tells refl)
  at_bound b left room false used tells =
      let busy = some_under_way false (under kind b).underway tells refl in
      let stops = and_from (ltb 0 (under kind b).underway) (eqb left 0) (lt-ltb 0 (under kind b).underway busy) (eq-eqb left 0 used) in
      stopped LimitReached busy (cond-true (due LimitReached (under kind b) 0 left) (Some LimitReached) (step_refusal (under kind b) 0 room) stops)

  pub at_refusal : (b : Records S) (left room : ℕ) (e : Refusal) → 0 < (under kind b).underway → 0 < left → step_refusal (under kind b) 0 room ≡ Some e →
      Drained kind b left room 0 [] (Some e) b
  at_refusal b left room e busy more due = stopped e busy (busy_unstopped b left room more ∙ due)

  module _ (a : Records S) (bound : ℕ) (first : Roll Grant) where
    -- From a, with this bound and roll, the drain has taken so many steps and come to b and its roll.
    pub record Draining (taken : ℕ) (b : Records S) (roll : Roll Grant) : Type 0 where
      pub grants : List Grant
      pub well : Well kind b
      pub rolled : Rolled first roll grants
      pub onward : {more : ℕ} {gs : List Grant} {why : Option Refusal} {c : Records S} → Drained kind b (bound - taken) (room_of roll) more gs why c →
          Drained kind a bound (room_of first) (more + taken) (grants ++ gs) why c

    pub draining_more : {taken : ℕ} {b c : Broker S} {roll after : Roll Grant} {site told : Option ℕ} {gs : List Grant} →
        taken < bound → 0 < (under kind (records_of b)).underway → Draining taken (records_of b) roll →
        Outcome kind b (step 0 (room_of roll)) gs c site (Ok told) → Rolled roll after gs → Draining (taken + 1) (records_of c) after
    draining_more {taken} {b} {c} {roll} {after} {site} {told} {gs} below busy d out added = record {
      grants = d.grants ++ gs;
      well = out.performed.well;
      rolled = rolled_onward first roll after d.grants gs d.rolled added;
      onward = λ {more} {gs = hs} {why} {c = e} rest. joined more hs why e rest;
    }
      where
        free : refusal (under kind (records_of b)) (step 0 (room_of roll)) ≡ None
        free = accepted (refusal (under kind (records_of b)) (step 0 (room_of roll))) site told out.answers

        joined : (more : ℕ) (hs : List Grant) (why : Option Refusal) (e : Records S) →
            Drained kind (records_of c) (bound - (taken + 1)) (room_of after) more hs why e →
            Drained kind a bound (room_of first) (more + (taken + 1)) ((d.grants ++ gs) ++ hs) why e
        joined more hs why e rest =
            let (g, m, did, new, read) = stepped free out.performed.does in
            let left : bound - (taken + 1) ≡ bound - taken - 1 = omega arith in
            let room : room_of after ≡ room_of roll - length (grants_by_step kind (records_of b) g) = rw (← new) (room_left roll after gs added) in
            let ok = busy_unstopped (records_of b) (bound - taken) (room_of roll) (omega arith) ∙ free in
            let count : more + (taken + 1) ≡ more + 1 + taken = omega arith in
            let whole = d.onward (carried g m busy ok did (rw (← read, ← left, ← room) rest)) in
            rw (append_assoc, new, count) whole

    ended : {taken : ℕ} {b : Records S} {roll : Roll Grant} {why : Option Refusal} (d : Draining taken b roll) →
        Drained kind b (bound - taken) (room_of roll) 0 [] why b → Drained kind a bound (room_of first) taken d.grants why b
    ended {taken} d last =
        let count : 0 + taken ≡ taken = omega arith in
        let whole = d.onward last in
        rw (append-nil, count) at whole

    -- A refused step at the end adds nothing.
    rolled_still : {roll after : Roll Grant} (xs gs : List Grant) → Rolled first roll xs → Rolled roll after gs → gs ≡ [] → Rolled first after xs
    rolled_still {roll} {after} xs gs p q none =
        let both = rolled_onward first roll after xs gs p q in
        rw (none, append-nil) at both

    -- A drain that ends so, with the report of its steps and its reason; a last step that was refused has left all as found.
    pub reported : (laws : Obeys kind) (report : DrainReport) {taken : ℕ} {b c : Broker S} {roll after : Roll Grant} {gs : List Grant} {why : Option Refusal} →
        Well kind a → Draining taken (records_of b) roll → Drained kind (records_of b) (bound - taken) (room_of roll) 0 [] why (records_of b) →
        (c ≡ b) × (gs ≡ []) → Rolled roll after gs → report.steps ≡ taken → report.stopped ≡ why →
        (grants : List Grant) × Drained kind a bound (room_of first) report.steps grants report.stopped (records_of c) ×
        Performed kind a (drain bound (room_of first)) grants (records_of c) × Rolled first after grants
    reported laws report {c = c} {gs = gs} w d last left added counted given =
        let here = ended d last in
        let whole : Drained kind a bound (room_of first) report.steps d.grants report.stopped (records_of c) = rw (counted, given, left.0) here in
        (d.grants, whole, performed kind laws w (drains whole), rolled_still d.grants gs d.rolled added left.1)
