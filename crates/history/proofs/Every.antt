-- Every history keeps the promise: the induction over its calls.
use Rattle.std.proofs.Common.{◌≡◌, ℕ, ◌+◌, ◌*◌, ◌<◌, ◌≤◌, Bool, false, List, None, Ok, Option, sym, refl, ap, ◌∙◌, subst, mul-one, mul-add, arith}
use Rattle.std.proofs.lemmas.Bool.{both_ways}
use Rattle.std.proofs.lemmas.Bool.Decides.{nat_tests}
use Rattle.manager.specs.Answers.{status_shown, holder_shown}
use Rattle.manager.specs.Effects.{Parked}
use Rattle.manager.specs.Kinds.{Kind, Obeys}
use Rattle.manager.specs.Meaning.{Meaning, is_holding}
use Rattle.manager.specs.Refusals.{refused, site_order}
use Rattle.manager.proofs.First.{Finds, first_finds}
use Rattle.manager.specs.declared.status.Status.{Status}
use Rattle.manager.specs.declared.status.Status.TheVariants.{Waiting, Holding}
use Rattle.history.specs.Calls.{Call, Done, done, ◌and◌, Does}
use Rattle.history.specs.Histories.{History, Performed, Continues, GoesOn}
use Rattle.history.specs.Histories.History.{begin, then}
use Rattle.history.specs.Promise.{Kept, EveryHistory, Begun}
use Rattle.history.specs.Records.{Records, Well, started, under}
use Rattle.history.specs.declared.Grant.{Grant}
use Rattle.history.proofs.Along.{Moved, moves}

-- What is shown of a site's status is its status, and the site is one.
pub shown_status : (m : Meaning) (i : ℕ) (st : Status) → status_shown m i ≡ Ok st → (i < m.sites) × (m.status i ≡ st)
shown_status m i st e = (grind (arith, nat_tests), grind (arith, nat_tests))

positive : (n : ℕ) → (n ≡ 0 → ⊥) → 0 < n
positive n some = omega arith

-- Where no site is shown holding, none holds.
nobody : (m : Meaning) (i : ℕ) → holder_shown m ≡ None → i < m.sites → m.status i ≡ Holding → ⊥
nobody m i none within holds =
    let test : ℕ → Bool = λ k. is_holding (m.status k) in
    let free : test i ≡ false = subst (λ (o : Option ℕ). Finds test m.sites o) none (first_finds test m.sites) i within in
    both_ways (test i) free (ap is_holding holds)

module _ {S : Type 0} (kind : Kind S) (laws : Obeys kind) (a : Records S) where
  -- What the induction carries along.
  record Along (d : Done) (b : Records S) : Type 0 where
    well : Well kind b
    toll : (under kind b).toll ≡ (under kind a).toll
    asks_total : b.asks ≡ d.asks
    frees_total : b.frees ≡ d.frees
    steps_total : b.steps ≡ d.steps
    bound : d.steps + (under kind b).work ≤ (under kind a).toll * (d.asks + d.frees + 1)

  further : (d e : Done) (b c : Records S) → Along d b → Moved kind b e c → Along (d and e) c
  further d e b c h m =
      let more : (under kind a).toll * ((d.asks + d.frees + 1) + (e.asks + e.frees)) ≡ (under kind a).toll * (d.asks + d.frees + 1) + (under kind a).toll * (e.asks + e.frees) = mul-add (under kind a).toll (d.asks + d.frees + 1) (e.asks + e.frees) in
      let same : (under kind b).toll * (e.asks + e.frees) ≡ (under kind a).toll * (e.asks + e.frees) = ap (λ (t : ℕ). t * (e.asks + e.frees)) h.toll in
      let regroup : (d.asks + e.asks) + (d.frees + e.frees) + 1 ≡ (d.asks + d.frees + 1) + (e.asks + e.frees) = omega arith in
      let product : (under kind a).toll * ((d.asks + e.asks) + (d.frees + e.frees) + 1) ≡ (under kind a).toll * ((d.asks + d.frees + 1) + (e.asks + e.frees)) = ap (λ (t : ℕ). (under kind a).toll * t) regroup in
      record {
        well = m.well;
        toll = m.toll ∙ h.toll;
        asks_total = omega (arith, m.asks_more, h.asks_total);
        frees_total = omega (arith, m.frees_more, h.frees_total);
        steps_total = omega (arith, m.steps_more, h.steps_total);
        bound = omega (arith, m.work, h.bound, more, same, product);
      }

  along : {d : Done} {b : Records S} → Along (done 0 0 0) a → History kind a d b → Along d b
  along h begin = h
  along h (then {d} {e} {b} {c} call before does) =
      let here = along h before in further d e b c here (moves kind laws here.well does)

  kept : (d : Done) (b : Records S) → Along d b → Kept kind a d b
  kept d b h =
      let law = laws.lawful b.manager h.well.sound in
      record {
        exclusive = λ i j p q. let x = shown_status (under kind b) i Holding p in let y = shown_status (under kind b) j Holding q in law.exclusive i j x.0 y.0 x.1 y.1;
        served = λ i p none. positive (under kind b).underway (λ quiet. let x = shown_status (under kind b) i Waiting p in let s = law.served i x.0 x.1 quiet in nobody (under kind b) s.0 none s.1 s.2);
        few_steps = omega (arith, h.bound);
        asks_total = h.asks_total;
        frees_total = h.frees_total;
        steps_total = h.steps_total;
      }

  -- A broker that is well, with its totals at 0 and no more work than its toll, as parking leaves it.
  pub every_history : Well kind a → a.asks ≡ 0 → a.frees ≡ 0 → a.steps ≡ 0 → (under kind a).work ≤ (under kind a).toll → EveryHistory kind a
  every_history w p q r small d b history =
      kept d b (along (record { well = w; toll = refl; asks_total = p; frees_total = q; steps_total = r; bound = omega (arith, mul-one (under kind a).toll) }) history)

module _ {S : Type 0} (kind : Kind S) (laws : Obeys kind) where
  -- Parking begins a history.
  pub begun : (m n : S) (g : ℕ) (b : Records S) → refused site_order (kind.meaning m) g ≡ None → kind.parks m g n → b ≡ started n → Begun kind m g b
  begun m n g b site did e = subst (λ (x : Records S). Begun kind m g x) (sym e) here
    where
      now : kind.sound n × Parked (kind.meaning m) g (kind.meaning n)
      now = laws.parking m n g site did

      fine : Well kind (started n)
      fine = record { sound = now.0; counted = sym now.1.age }

      here : Begun kind m g (started n)
      here = record { parked = did; anew = refl; well = fine; promised = every_history kind laws (started n) fine refl refl refl now.1.work }

  -- A call that does what one call does is a step of a history.
  pub performed : {b : Records S} {call : Call} {e : Done} {gs : List Grant} {c : Records S} → Well kind b → Does kind b call e gs c → Performed kind b call gs c
  performed {e = e} w d = record { carried = e; does = d; well = (moves kind laws w d).well }

  pub goes_nowhere : (b : Records S) → GoesOn kind b b
  goes_nowhere b w = record { carried = done 0 0 0; history = begin; well = w }

  -- One call is a history of one step.
  pub one_call : {b c : Records S} {call : Call} {gs : List Grant} → Performed kind b call gs c → Continues kind b c
  one_call {call = call} p = record { carried = done 0 0 0 and p.carried; history = then call begin p.does; well = p.well }

  and_none : (d : Done) → d and done 0 0 0 ≡ d
  and_none d =
      let p : d.asks + 0 ≡ d.asks = omega arith in
      let q : d.frees + 0 ≡ d.frees = omega arith in
      let r : d.steps + 0 ≡ d.steps = omega arith in
      λ k. done (p k) (q k) (r k)

  and_assoc : (d e f : Done) → (d and e) and f ≡ d and (e and f)
  and_assoc d e f =
      let p : d.asks + e.asks + f.asks ≡ d.asks + (e.asks + f.asks) = omega arith in
      let q : d.frees + e.frees + f.frees ≡ d.frees + (e.frees + f.frees) = omega arith in
      let r : d.steps + e.steps + f.steps ≡ d.steps + (e.steps + f.steps) = omega arith in
      λ k. done (p k) (q k) (r k)

  joined : {a b c : Records S} {d e : Done} → History kind a d b → History kind b e c → History kind a (d and e) c
  joined {a} {b} {d = d} h begin = subst (λ (x : Done). History kind a x b) (sym (and_none d)) h
  joined {a} {d = d} h (then {d = e} {e = f} {c = c} call before does) =
      subst (λ (x : Done). History kind a x c) (and_assoc d e f) (then call (joined h before) does)

  -- One routine after another.
  pub goes_onward : {a b c : Records S} → GoesOn kind a b → GoesOn kind b c → GoesOn kind a c
  goes_onward f k w =
      let h = f w in
      let more = k h.well in
      record { carried = h.carried and more.carried; history = joined h.history more.history; well = more.well }
