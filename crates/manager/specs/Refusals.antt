-- When a call is refused, in which order the refusals are tried, and their numbers. Assumes nothing.
use Rattle.std.specs.Prelude.{ℕ, Bool, cond, not, ◌&&◌, List, [], ◌∷◌, Some, None, Option, ◌==◌, nat_le, nat_lt}
use Rattle.manager.specs.Meaning.{Meaning, limit, is_idle, is_holding}
use Rattle.manager.specs.declared.refusal.Refusal.{Refusal}
use Rattle.manager.specs.declared.refusal.Refusal.TheVariants.{NoSite, Worn, NotIdle, NotHolding, NoThing, RollFull, ShortWaitList, LimitReached}

abbrev pub number_of : Refusal → ℕ
number_of NoSite = 1
number_of Worn = 2
number_of NotIdle = 3
number_of NotHolding = 4
number_of NoThing = 5
number_of RollFull = 6
number_of ShortWaitList = 7
number_of LimitReached = 11

-- Is the refusal due, of a call that names a site or a thing by its number, on a manager that means m? The room is what
-- the caller lent: free places in a roll, places in a wait list, or the steps that a drain may still take.
abbrev pub due : Refusal → Meaning → (number room : ℕ) → Bool
due NoSite m number room = nat_le m.sites number
due Worn m number room = nat_le limit m.age
due NotIdle m number room = not (is_idle (m.status number))
due NotHolding m number room = not (is_holding (m.status number))
due NoThing m number room = nat_le m.underway number
due RollFull m number room = room == 0
due ShortWaitList m number room = nat_lt room m.sites
due LimitReached m number room = nat_lt 0 m.underway && room == 0

-- The first of the listed refusals that is due.
abbrev pub tried : List Refusal → Meaning → (number room : ℕ) → Option Refusal
tried [] m number room = None
tried (r ∷ rs) m number room = cond (due r m number room) (Some r) (tried rs m number room)

-- Naming a site, in a park or in a question.
abbrev pub site_order : List Refusal
site_order = NoSite ∷ []

abbrev pub ask_order : List Refusal
ask_order = NoSite ∷ (Worn ∷ (NotIdle ∷ []))

abbrev pub free_order : List Refusal
free_order = NoSite ∷ (Worn ∷ (NotHolding ∷ []))

abbrev pub step_order : List Refusal
step_order = Worn ∷ (NoThing ∷ [])

-- What a manager, which is lent no memory, refuses.
abbrev pub refused : List Refusal → Meaning → ℕ → Option Refusal
refused order m number = tried order m number 0
