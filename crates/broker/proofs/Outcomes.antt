-- The two ways that a call ends: refused, with everything as found, or carried out.
use Rattle.std.proofs.Common.{◌≡◌, ℕ, ◌+◌, ◌-◌, ◌<◌, Bool, cond, List, [], ◌∷◌, length, get_or, set, Some}
use Rattle.std.proofs.Common.{None, Ok, Err, Option, Result, sym, refl, ap, ◌∙◌, subst, inl, inr, arith, get_or-set_other, get_or-set_same}
use mathlib.Core.Path.{fun_ext}
use Rattle.std.proofs.lemmas.Bool.{cases_eq}
use Rattle.std.proofs.lemmas.Result.{err_from_is_err_and}
use Rattle.std.specs.Result.{IsErrAnd}
use Rattle.counting.specs.Sums.{upd}
use Rattle.counting.proofs.Sums.{upd_same, upd_other}
use Rattle.manager.specs.Answers.{answer, Call as Answered}
use Rattle.manager.specs.Kinds.{Kind, Obeys}
use Rattle.manager.specs.Meaning.{is_holding}
use Rattle.manager.specs.Refusals.{refused, ask_order, free_order, step_order}
use Rattle.manager.specs.declared.status.Status.{Status}
use Rattle.manager.specs.declared.refusal.Refusal.{Refusal}
use Rattle.manager.specs.declared.refusal.Refusal.TheVariants.{RollFull}
use Rattle.manager.proofs.Accepted.{accepted_ask}
use Rattle.history.specs.Calls.{Call, Done, Does, ask, free, step, refusal, ask_refusal, step_refusal}
use Rattle.history.specs.Calls.Does.{is_refused, asks, frees, steps}
use Rattle.history.specs.Histories.{Performed}
use Rattle.history.specs.Records.{Records, Well, under, grant, after_ask, after_free, after_step, grants_by_step}
use Rattle.history.specs.declared.Grant.{Grant}
use Rattle.history.proofs.Every.{performed}
use Rattle.history.proofs.Orders.{tried_front}
use Rattle.broker.specs.Outcome.{Outcome}
use Rattle.broker.specs.Counting.{Counts}
use Rattle.broker.specs.Reading.{records_of}
use Rattle.broker.specs.declared.state.Broker.{Broker}
use Rattle.broker.specs.declared.totals.Totals.{Totals}
use Rattle.broker.proofs.Answering.{ok_not_err, accepted, accepted_value, refusing}

-- The broker over another manager, with other totals.
abbrev pub over : {S : Type 0} → S → Totals → Broker S
over m t = record { manager = m; totals = t }

-- The steps at each ask, after one more ask.
asked_once_more : (xs : List ℕ) (i v : ℕ) → i < length xs → (j : ℕ) → get_or (set xs i v) j 0 ≡ upd (λ k. get_or xs k 0) i v j
asked_once_more xs i v h j = elim (cases_eq j i) [
  | inl same ↦
      ap (λ (k : ℕ). get_or (set xs i v) k 0) same ∙ get_or-set_same xs i v 0 h ∙
      sym (ap (upd (λ k. get_or xs k 0) i v) same ∙ upd_same (λ k. get_or xs k 0) i v)
  | inr other ↦ get_or-set_other xs i j v 0 other ∙ sym (upd_other (λ k. get_or xs k 0) i v j other)
]

-- Calls on the broker b.
module _ {S : Type 0} (kind : Kind S) (laws : Obeys kind) (b : Broker S) where
  -- A call that a `?` ends with the refusal that is due.
  pub refused_outcome : {A : Type 0} {value : A} {r : Result A Refusal} {e : Refusal} (call : Call) → Well kind (records_of b) →
      Err e ≡ answer (refusal (under kind (records_of b)) call) (tt {0}) → IsErrAnd r (λ y. y ≡ e) → Outcome kind b call [] b value r
  refused_outcome {value = value} {r} {e} call w refused handed =
      let due = refusing (refusal (under kind (records_of b)) call) (tt {0}) e refused in
      let (y, failed, same) = err_from_is_err_and r handed in
      record {
        answers = failed ∙ ap Err same ∙ sym (ap (λ (o : Option Refusal). answer o value) due);
        performed = performed kind laws w (is_refused e due);
        leaves = λ _ _. (refl, refl);
      }

  carried_outcome : {A : Type 0} {grants : List Grant} {value : A} {r : Result A Refusal} {d : Done} {after : Records S} (call : Call) (c : Broker S) →
      Well kind (records_of b) → r ≡ Ok value → refusal (under kind (records_of b)) call ≡ None → Does kind (records_of b) call d grants after →
      records_of c ≡ after → Outcome kind b call grants c value r
  carried_outcome {grants = grants} {value} call c w ok none does read = record {
    answers = ok ∙ sym (ap (λ (o : Option Refusal). answer o value) none);
    performed = subst (λ (x : Records S). Performed kind (records_of b) call grants x) (sym read) (performed kind laws w does);
    leaves = λ e failed. absurd (ok_not_err value e (sym ok ∙ failed));
  }

  -- Carried out, they leave the manager m and the totals t.
  module _ (m : S) (t : Totals) where
    -- An ask, whose site then holds or not.
    pub asked_outcome : {i room : ℕ} {status : Status} (holds : Bool) → Well kind (records_of b) →
        Ok (tt {0}) ≡ answer (ask_refusal (kind.meaning b.manager) i room) (tt {0}) →
        Answered (refused ask_order (kind.meaning b.manager) i) (kind.asks b.manager i m) ((kind.meaning m).status i) b.manager m (Ok status) →
        length b.totals.asked ≡ 64 → Counts t (b.totals.asks + 1) b.totals.frees b.totals.steps (set b.totals.asked i b.totals.steps) →
        holds ≡ is_holding status → Outcome kind b (ask i room) (cond holds (grant i 0 ∷ []) []) (over m t) ((kind.meaning m).status i) (Ok status)
    asked_outcome {i} {room} {status} holds w may called wide counts told =
        let before = kind.meaning b.manager in
        let ok = accepted (ask_refusal before i room) (tt {0}) (tt {0}) may in
        let none = tried_front ask_order (RollFull ∷ []) before i room ok in
        let shown = accepted_value (refused ask_order before i) ((kind.meaning m).status i) status called.answers in
        let within : i < length b.totals.asked = omega (arith, (accepted_ask before i none).0, wide, (laws.bounded b.manager).most) in
        let asked = λ (j : ℕ). ap (λ (xs : List ℕ). get_or xs j 0) counts.asked ∙ asked_once_more b.totals.asked i b.totals.steps within j in
        let read : records_of (over m t) ≡ after_ask kind (records_of b) i m = λ k.
        record { manager = m; asks = counts.asks k; frees = counts.frees k; steps = counts.steps k; asked = fun_ext asked k } in
        let granted : holds ≡ is_holding ((kind.meaning m).status i) = told ∙ ap is_holding shown in
        rw granted (carried_outcome (ask i room) (over m t) w (ap Ok shown) ok (asks i room m ok (called.does none)) read)

    pub freed_outcome : {i : ℕ} → Well kind (records_of b) →
        Answered (refused free_order (kind.meaning b.manager) i) (kind.frees b.manager i m) (tt {0}) b.manager m (Ok (tt {0})) →
        Counts t b.totals.asks (b.totals.frees + 1) b.totals.steps b.totals.asked → Outcome kind b (free i) [] (over m t) (tt {0}) (Ok (tt {0}))
    freed_outcome {i} w called counts =
        let ok = accepted (refused free_order (kind.meaning b.manager) i) (tt {0}) (tt {0}) called.answers in
        let read : records_of (over m t) ≡ after_free kind (records_of b) m = λ k.
        record { manager = m; asks = counts.asks k; frees = counts.frees k; steps = counts.steps k; asked = λ j. get_or (counts.asked k) j 0 } in
        carried_outcome (free i) (over m t) w refl ok (frees i m ok (called.does ok)) read

    -- A step, with what it granted.
    pub stepped_outcome : {k room : ℕ} {told : Option ℕ} (granted : Option ℕ) → told ≡ granted → Well kind (records_of b) →
        Ok (tt {0}) ≡ answer (step_refusal (kind.meaning b.manager) k room) (tt {0}) →
        (x : Option ℕ) × Answered (refused step_order (kind.meaning b.manager) k) (kind.steps b.manager k x m) x b.manager m (Ok told) →
        Counts t b.totals.asks b.totals.frees (b.totals.steps + 1) b.totals.asked →
        Outcome kind b (step k room) (grants_by_step kind (records_of b) granted) (over m t) granted (Ok granted)
    stepped_outcome {k} {room} {told} granted same w may (x, called) counts =
        let before = kind.meaning b.manager in
        let ok = accepted (step_refusal before k room) (tt {0}) (tt {0}) may in
        let none = tried_front step_order (RollFull ∷ []) before k room ok in
        let known = accepted_value (refused step_order before k) x told called.answers in
        let did = subst (λ (y : Option ℕ). kind.steps b.manager k y m) (sym known ∙ same) (called.does none) in
        let read : records_of (over m t) ≡ after_step kind (records_of b) m = λ j.
        record { manager = m; asks = counts.asks j; frees = counts.frees j; steps = counts.steps j; asked = λ i. get_or (counts.asked j) i 0 } in
        carried_outcome (step k room) (over m t) w refl ok (steps k room granted m ok did) read

  -- The grant that a step adds, by the steps that the broker counts.
  pub granted_by_step : {t : Totals} {waited site : ℕ} → Counts t b.totals.asks b.totals.frees (b.totals.steps + 1) b.totals.asked →
      waited ≡ t.steps - get_or t.asked site 0 → grants_by_step kind (records_of b) (Some site) ≡ grant site waited ∷ []
  granted_by_step {t} {waited} {site} counts since = ap (λ (n : ℕ). grant site n ∷ []) (sym (rw (counts.steps, counts.asked) at since))
