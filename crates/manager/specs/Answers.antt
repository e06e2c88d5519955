-- What the questions answer, and what a call that may be refused answers and leaves. Assumes nothing.
use Rattle.std.specs.Prelude.{◌≡◌, ℕ, zero, suc, min, Bool, cond, Some, None, Ok, Err, Option, Result}
use Rattle.manager.specs.Meaning.{Meaning, limit, is_holding}
use Rattle.manager.specs.Refusals.{refused, site_order}
use Rattle.manager.specs.declared.refusal.Refusal.{Refusal}
use Rattle.manager.specs.declared.status.Status.{Status}

-- The refusal, or else the answer.
abbrev pub answer : {A : Type 0} → Option Refusal → A → Result A Refusal
answer None a = Ok a
answer (Some r) a = Err r

-- The refusal if it is due, or else nothing.
abbrev pub refuse_if : Bool → Refusal → Result (Unit {0}) Refusal
refuse_if due r = answer (cond due (Some r) None) tt

-- The first number below n that passes the test.
abbrev pub first : (ℕ → Bool) → ℕ → Option ℕ
first test zero = None
first test (suc n) = elim (first test n) [ Some i ↦ Some i | None ↦ cond (test n) (Some n) None ]

abbrev pub status_shown : Meaning → ℕ → Result Status Refusal
status_shown m i = answer (refused site_order m i) (m.status i)

abbrev pub called_shown : Meaning → ℕ → Result Bool Refusal
called_shown m i = answer (refused site_order m i) (m.called i)

-- The site that holds, if one does.
abbrev pub holder_shown : Meaning → Option ℕ
holder_shown m = first (λ i. is_holding (m.status i)) m.sites

abbrev pub toll_shown : Meaning → ℕ
toll_shown m = min m.toll limit

-- A call that may be refused. Refused, it answers the refusal and leaves everything as found; carried out, it does what
-- `done` says and gives its answer.
pub record Call {S A : Type 0} (refusal : Option Refusal) (done : Type 0) (value : A) (before after : S) (result : Result A Refusal) : Type 0 where
  pub answers : result ≡ answer refusal value
  pub leaves : (r : Refusal) → refusal ≡ Some r → after ≡ before
  pub does : refusal ≡ None → done
