-- What is promised of every history of a broker, in the words of the questions. Assumes nothing.
use Rattle.std.specs.Prelude.{◌≡◌, ℕ, ◌+◌, ◌*◌, ◌<◌, ◌≤◌, None, Ok}
use Rattle.manager.specs.Answers.{status_shown, holder_shown}
use Rattle.manager.specs.Kinds.{Kind}
use Rattle.manager.specs.declared.status.Status.TheVariants.{Waiting, Holding}
use Rattle.history.specs.Calls.{Done}
use Rattle.history.specs.Histories.{History}
use Rattle.history.specs.Records.{Records, Well, started, under}

module _ {S : Type 0} (kind : Kind S) where
  -- After the calls of a history that began at a and has come to b.
  pub record Kept (a : Records S) (d : Done) (b : Records S) : Type 0 where
    -- at most one site is shown holding
    pub exclusive : (i j : ℕ) → status_shown (under kind b) i ≡ Ok Holding → status_shown (under kind b) j ≡ Ok Holding → i ≡ j
    -- if a site is shown waiting and none holding, something is shown under way
    pub served : (i : ℕ) → status_shown (under kind b) i ≡ Ok Waiting → holder_shown (under kind b) ≡ None → 0 < (under kind b).underway
    -- the steps are at most toll × (asks + frees + 1)
    pub few_steps : d.steps ≤ (under kind a).toll * (d.asks + d.frees + 1)
    -- the totals shown are those of the history
    pub asks_total : b.asks ≡ d.asks
    pub frees_total : b.frees ≡ d.frees
    pub steps_total : b.steps ≡ d.steps

  abbrev pub EveryHistory : Records S → Type 0
  EveryHistory a = (d : Done) (b : Records S) → History kind a d b → Kept a d b

  -- A broker that begins, on a manager that stood at m and was parked at g: nothing has been carried out, and every
  -- history from here keeps the promise.
  pub record Begun (m : S) (g : ℕ) (b : Records S) : Type 0 where
    pub parked : kind.parks m g b.manager
    pub anew : b ≡ started b.manager
    pub well : Well kind b
    pub promised : EveryHistory b
