-- What the routines of a run do: ask for a site unless it was served often enough, free the holder, step, drain. Assumes nothing.
use Rattle.std.specs.Prelude.{ℕ, ◌+◌, ◌<◌, ◌≤◌, ◌≡◌, List, [], None, Ok, Option, Result, Some}
use Rattle.manager.specs.Answers.{holder_shown}
use Rattle.manager.specs.Kinds.{Kind}
use Rattle.manager.specs.declared.refusal.Refusal.{Refusal}
use Rattle.manager.specs.declared.status.Status.{Status}
use Rattle.roll.specs.Contents.{written, room_of}
use Rattle.roll.specs.Tellers.{tellers}
use Rattle.roll.specs.declared.list.Roll.{Roll}
use Rattle.history.specs.Calls.{Drained, ask, drain, free, step}
use Rattle.history.specs.Histories.{Performed}
use Rattle.history.specs.Records.{Well, grants_by_step}
use Rattle.history.specs.declared.Grant.{Grant}
use Rattle.broker.specs.Outcome.{Outcome}
use Rattle.broker.specs.Reading.{records_of}
use Rattle.broker.specs.Rolling.{Rolled}
use Rattle.broker.specs.declared.state.Broker.{Broker}
use Rattle.broker.specs.declared.state.DrainReport.{DrainReport}

-- How many of the roll's grants are the site's.
abbrev pub times_served : Roll Grant → ℕ → ℕ
times_served roll site = tellers (λ grant. grant.site) (written roll) site

module _ {S : Type 0} (kind : Kind S) (site turns : ℕ) (before : Broker S) (roll_before : Roll Grant) (after : Broker S) (roll_after : Roll Grant) where
  -- The broker, if it was well, was asked for the site, whatever it answered.
  abbrev pub Asked : Type 0
  Asked =
      Well kind (records_of before) → (answer : Result Status Refusal) × (grants : List Grant) × Outcome kind before (ask site (room_of roll_before)) grants after ((kind.meaning after.manager).status site) answer × Rolled roll_before roll_after grants

  pub record AsksUnlessServed : Type 0 where
    -- one that was served too seldom is asked for
    pub asks : times_served roll_before site < turns → Asked
    -- for one that was not, broker and roll stay
    pub leaves_broker : turns ≤ times_served roll_before site → after ≡ before
    pub leaves_roll : turns ≤ times_served roll_before site → roll_after ≡ roll_before

-- The sites below a number are asked for in order, each unless it was served often enough.
pub data AsksInOrder {S : Type 0} (kind : Kind S) (turns : ℕ) (before : Broker S) (roll : Roll Grant) : ℕ → Broker S → Roll Grant → Type 0 where
  none : AsksInOrder kind turns before roll 0 before roll
  then : {site : ℕ} {b c : Broker S} {r q : Roll Grant}
      → AsksInOrder kind turns before roll site b r
      → AsksUnlessServed kind site turns b r c q
      → AsksInOrder kind turns before roll (site + 1) c q

module _ {S : Type 0} (kind : Kind S) (before after : Broker S) where
  -- The broker was told to free the one that is shown holding, whatever it answered. Where none is, nothing was done.
  pub record FreesHolder (holder : Option ℕ) : Type 0 where
    pub shows : holder ≡ holder_shown (kind.meaning before.manager)
    pub frees : (site : ℕ) → holder ≡ Some site → Well kind (records_of before)
        → (answer : Result (Unit {0}) Refusal) × Outcome kind before (free site) [] after tt answer
    pub leaves_all : holder ≡ None → after ≡ before

  -- The broker, if it was well, was told to carry out one thing under way, and answered so.
  abbrev pub Stepped : (roll_before roll_after : Roll Grant) → ℕ → Result (Option ℕ) Refusal → Type 0
  Stepped roll_before roll_after thing answer =
      Well kind (records_of before)
      → (site : Option ℕ) × (grants : List Grant)
      × Outcome kind before (step thing (room_of roll_before)) grants after site answer
      × Rolled roll_before roll_after grants
      × (answer ≡ Ok site → grants ≡ grants_by_step kind (records_of before) site)

  -- The broker, if it was well, was told to drain, at most so many steps, and reported so.
  abbrev pub DrainedSo : (roll_before roll_after : Roll Grant) → ℕ → DrainReport → Type 0
  DrainedSo roll_before roll_after bound report =
      let room = room_of roll_before in
      Well kind (records_of before)
      → (grants : List Grant)
      × Drained kind (records_of before) bound room report.steps grants report.stopped (records_of after)
      × Performed kind (records_of before) (drain bound room) grants (records_of after)
      × Rolled roll_before roll_after grants
