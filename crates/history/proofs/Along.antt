-- What one call on a broker changes, from the laws of its manager alone.
use Rattle.std.proofs.Common.{◌≡◌, ℕ, ◌+◌, ◌*◌, ◌≤◌, List, [], ◌∷◌, None, Option, refl, ◌∙◌, mul-zero, mul-one, arith}
use Rattle.manager.specs.Kinds.{Kind, Obeys}
use Rattle.manager.specs.Refusals.{due, refused, ask_order, step_order}
use Rattle.manager.specs.declared.refusal.Refusal.{Refusal}
use Rattle.manager.specs.declared.refusal.Refusal.TheVariants.{RollFull, LimitReached}
use Rattle.history.specs.Calls.{Call, Done, done, Does, Drained, step_refusal}
use Rattle.history.specs.Calls.Drained.{finished, stopped, carried}
use Rattle.history.specs.Calls.Does.{is_refused, asks, frees, steps, drains, writes_waits, answers}
use Rattle.history.specs.Records.{Records, Well, under, after_step}
use Rattle.history.specs.declared.Grant.{Grant}
use Rattle.history.proofs.Orders.{tried_front, not_due}

-- A broker that has gone from b to c by carrying out e.
pub record Moved {S : Type 0} (kind : Kind S) (b : Records S) (e : Done) (c : Records S) : Type 0 where
  pub well : Well kind c
  pub toll : (under kind c).toll ≡ (under kind b).toll
  pub asks_more : c.asks ≡ b.asks + e.asks
  pub frees_more : c.frees ≡ b.frees + e.frees
  pub steps_more : c.steps ≡ b.steps + e.steps
  pub work : (under kind c).work + e.steps ≤ (under kind b).work + (under kind b).toll * (e.asks + e.frees)

module _ {S : Type 0} (kind : Kind S) (laws : Obeys kind) where
  stayed : (b : Records S) → Well kind b → Moved kind b (done 0 0 0) b
  stayed b w = record {
    well = w;
    toll = refl;
    asks_more = omega arith;
    frees_more = omega arith;
    steps_more = omega arith;
    work = omega (arith, mul-zero (under kind b).toll);
  }

  pub stepped : (b : Records S) (k : ℕ) (g : Option ℕ) (m : S) → Well kind b → refused step_order (under kind b) k ≡ None → kind.steps b.manager k g m → Moved kind b (done 0 0 1) (after_step kind b m)
  stepped b k g m w free did =
      let now = laws.stepping b.manager m k g w.sound free did in
      record {
        well = record { sound = now.0; counted = omega (arith, w.counted, now.1.age) };
        toll = now.1.toll;
        asks_more = omega arith;
        frees_more = omega arith;
        steps_more = refl;
        work = omega (arith, now.1.work, mul-zero (under kind b).toll);
      }

  onward : (a b c : Records S) (s t : ℕ) → Moved kind a (done 0 0 s) b → Moved kind b (done 0 0 t) c → Moved kind a (done 0 0 (t + s)) c
  onward a b c s t p q = record {
    well = q.well;
    toll = q.toll ∙ p.toll;
    asks_more = omega (arith, p.asks_more, q.asks_more);
    frees_more = omega (arith, p.frees_more, q.frees_more);
    steps_more = omega (arith, p.steps_more, q.steps_more);
    work = omega (arith, p.work, q.work, mul-zero (under kind a).toll, mul-zero (under kind b).toll);
  }

  pub drained : {b : Records S} {bound room taken : ℕ} {gs : List Grant} {why : Option Refusal} {c : Records S} → Well kind b → Drained kind b bound room taken gs why c → Moved kind b (done 0 0 taken) c
  drained {b} w (finished quiet) = stayed b w
  drained {b} w (stopped r busy refusal) = stayed b w
  drained {b} {bound} {room} {c = c} w (carried {taken = taken} g m busy free did more) =
      let unstopped = (not_due (due LimitReached (under kind b) 0 bound) LimitReached (step_refusal (under kind b) 0 room) free).1 in
      let one = stepped b 0 g m w (tried_front step_order (RollFull ∷ []) (under kind b) 0 room unstopped) did in
      onward b (after_step kind b m) c 1 taken one (drained one.well more)

  pub moves : {b : Records S} {call : Call} {e : Done} {gs : List Grant} {c : Records S} → Well kind b → Does kind b call e gs c → Moved kind b e c
  moves {b} w (is_refused r refusal) = stayed b w
  moves {b} w (asks i room m free did) =
      let now = laws.asking b.manager m i w.sound (tried_front ask_order (RollFull ∷ []) (under kind b) i room free) did in
      record {
        well = record { sound = now.0; counted = omega (arith, w.counted, now.1.age) };
        toll = now.1.toll;
        asks_more = refl;
        frees_more = omega arith;
        steps_more = omega arith;
        work = omega (arith, now.1.work, mul-one (under kind b).toll);
      }
  moves {b} w (frees i m free did) =
      let now = laws.freeing b.manager m i w.sound free did in
      record {
        well = record { sound = now.0; counted = omega (arith, w.counted, now.1.age) };
        toll = now.1.toll;
        asks_more = omega arith;
        frees_more = refl;
        steps_more = omega arith;
        work = omega (arith, now.1.work, mul-one (under kind b).toll);
      }
  moves {b} w (steps k room g m free did) =
      stepped b k g m w (tried_front step_order (RollFull ∷ []) (under kind b) k room free) did
  moves w (drains d) = drained w d
  moves {b} w (writes_waits places free) = stayed b w
  moves {b} w answers = stayed b w
