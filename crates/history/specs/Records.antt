-- What a broker keeps, and what it shows of it. Assumes nothing.
use Rattle.std.specs.Prelude.{◌≡◌, ℕ, ◌+◌, ◌-◌, cond, List, [], ◌∷◌, Some, None, Option, Result}
use Rattle.counting.specs.Sums.{upd}
use Rattle.manager.specs.Answers.{answer}
use Rattle.manager.specs.Kinds.{Kind}
use Rattle.manager.specs.Meaning.{Meaning, is_waiting, is_holding}
use Rattle.manager.specs.Refusals.{refused, site_order}
use Rattle.manager.specs.declared.refusal.Refusal.{Refusal}
use Rattle.history.specs.declared.Grant.{Grant}

-- A broker keeps a manager, the totals of the asks, frees and steps carried out since it was started, and for each site
-- the total of steps when it last asked.
pub record Records (S : Type 0) : Type 0 where
  pub manager : S
  pub asks : ℕ
  pub frees : ℕ
  pub steps : ℕ
  pub asked : ℕ → ℕ

abbrev pub grant : (site waited : ℕ) → Grant
grant site waited = record { site = site; waited = waited }

-- Just made or started: nothing has been carried out.
abbrev pub started : {S : Type 0} → S → Records S
started m = record { manager = m; asks = 0; frees = 0; steps = 0; asked = λ i. 0 }

module _ {S : Type 0} (kind : Kind S) where
  -- The meaning of the manager under a broker.
  abbrev pub under : Records S → Meaning
  under b = kind.meaning b.manager

  -- How many steps a waiting site has waited since it asked; 0 for any other.
  abbrev pub wait : Records S → ℕ → ℕ
  wait b i = cond (is_waiting ((under b).status i)) (b.steps - b.asked i) 0

  abbrev pub wait_shown : Records S → ℕ → Result ℕ Refusal
  wait_shown b i = answer (refused site_order (under b) i) (wait b i)

  -- Site i has asked, and the manager is m since.
  abbrev pub after_ask : Records S → ℕ → S → Records S
  after_ask b i m = record { manager = m; asks = b.asks + 1; frees = b.frees; steps = b.steps; asked = upd b.asked i b.steps }

  -- A site served there and then has waited 0 steps.
  abbrev pub grants_by_ask : ℕ → S → List Grant
  grants_by_ask i m = cond (is_holding ((kind.meaning m).status i)) (grant i 0 ∷ []) []

  abbrev pub after_free : Records S → S → Records S
  after_free b m = record { manager = m; asks = b.asks; frees = b.frees + 1; steps = b.steps; asked = b.asked }

  abbrev pub after_step : Records S → S → Records S
  after_step b m = record { manager = m; asks = b.asks; frees = b.frees; steps = b.steps + 1; asked = b.asked }

  -- The granting step counts as waited.
  abbrev pub grants_by_step : Records S → Option ℕ → List Grant
  grants_by_step b None = []
  grants_by_step b (Some i) = grant i (b.steps + 1 - b.asked i) ∷ []

  -- What every call on a started broker keeps: the manager is sound, and the totals add up to its age.
  pub record Well (b : Records S) : Type 0 where
    pub sound : kind.sound b.manager
    pub counted : b.asks + b.frees + b.steps ≡ (under b).age
