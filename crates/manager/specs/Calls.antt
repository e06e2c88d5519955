-- What a manager's call answers and leaves, carried out or refused. Assumes nothing.
use Rattle.std.specs.Prelude.{ℕ, Option, Result}
use Rattle.manager.specs.Answers.{Call}
use Rattle.manager.specs.Meaning.{Meaning}
use Rattle.manager.specs.Refusals.{refused, site_order, ask_order, free_order, step_order}
use Rattle.manager.specs.declared.refusal.Refusal.{Refusal}
use Rattle.manager.specs.declared.status.Status.{Status}

-- The four calls of a manager that means so: each is refused for the first of its refusals that is due, or else does what
-- the kind's own rule says, from the manager before to the manager after.
module _ {S : Type 0} (meaning : S → Meaning) where
  abbrev pub ParksOrRefuses : (parks : S → ℕ → S → Type 0) → (before : S) (site : ℕ) (after : S) → Result (Unit {0}) Refusal → Type 0
  ParksOrRefuses parks before site after = Call (refused site_order (meaning before) site) (parks before site after) tt before after

  -- An ask answers the site's status then.
  abbrev pub AsksOrRefuses : (asks : S → ℕ → S → Type 0) → (before : S) (site : ℕ) (after : S) → Result Status Refusal → Type 0
  AsksOrRefuses asks before site after = Call (refused ask_order (meaning before) site) (asks before site after) ((meaning after).status site) before after

  abbrev pub FreesOrRefuses : (frees : S → ℕ → S → Type 0) → (before : S) (site : ℕ) (after : S) → Result (Unit {0}) Refusal → Type 0
  FreesOrRefuses frees before site after = Call (refused free_order (meaning before) site) (frees before site after) tt before after

  -- A step answers the site that came to hold, if one did.
  abbrev pub StepsOrRefuses : (steps : S → ℕ → Option ℕ → S → Type 0) → (before : S) (k : ℕ) (after : S) → Result (Option ℕ) Refusal → Type 0
  StepsOrRefuses steps before k after result =
      (grant : Option ℕ) × Call (refused step_order (meaning before) k) (steps before k grant after) grant before after result
