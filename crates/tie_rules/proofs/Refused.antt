-- A tie that is sound and not worn refuses as its parts do, and the calls of its own moves are accepted.
use Rattle.std.proofs.Common.{◌≡◌, ℕ, ◌-◌, ◌<◌, ◌≤◌, true, List, None, arith}
use Rattle.manager.specs.Kinds.{Kind, Obeys}
use Rattle.manager.specs.Meaning.{Meaning, limit}
use Rattle.manager.specs.Refusals.{refused, step_order}
use Rattle.manager.specs.declared.refusal.Refusal.{Refusal}
use Rattle.gateway.specs.Automaton.{last}
use Rattle.gateway.specs.Moves.{move_refused}
use Rattle.tie_rules.specs.Invariant.{Sound}
use Rattle.tie_rules.specs.Reading.{border, left_side, right_side, meaning_of}
use Rattle.tie_rules.specs.Sides.{due}
use Rattle.tie_rules.specs.State.{Tie}
use Rattle.manager.proofs.Accepted.{step_accepted}
use Rattle.tie_rules.proofs.Passing.{move_accepted}
use Rattle.tie_rules.proofs.Questions.{status_left, status_right}
use Rattle.tie_rules.proofs.Whole.{sound_linked}

-- Two managers refuse a call that names a site alike, if it is a site of both, neither is worn, and its status is the same.
abbrev pub RefusedAlike : List Refusal → Type 0
RefusedAlike order =
    (m n : Meaning) (i j : ℕ) → i < m.sites → j < n.sites → m.age < limit → n.age < limit → m.status i ≡ n.status j → refused order m i ≡ refused order n j

module _ {L R O : Type 0} (kl : Kind L) (kr : Kind R) (ko : Kind O) (t : Tie L R O) (v : Sound kl kr ko t) (young : t.age < limit) where
  abbrev left : Meaning
  left = kl.meaning t.left

  abbrev right : Meaning
  right = kr.meaning t.right

  abbrev outer : Meaning
  outer = ko.meaning t.outer

  pub left_young : left.age < limit
  left_young = omega (arith, v.left_young)

  pub right_young : right.age < limit
  right_young = omega (arith, v.right_young)

  pub outer_young : outer.age < limit
  outer_young = omega (arith, v.outer_young)

  -- A step of a part is accepted for each of the things that it has under way.
  pub left_step_accepted : (k : ℕ) → k < left.underway → refused step_order left k ≡ None
  left_step_accepted k l = step_accepted left k l left_young

  pub right_step_accepted : (k : ℕ) → k < right.underway → refused step_order right k ≡ None
  right_step_accepted k l = step_accepted right k l right_young

  pub outer_step_accepted : (k : ℕ) → k < outer.underway → refused step_order outer k ≡ None
  outer_step_accepted k l = step_accepted outer k l outer_young

  -- A call that names a site of the tie is refused as it is in the site's island.
  module _ (order : List Refusal) (alike : RefusedAlike order) (x : ℕ) (within : x < (meaning_of kl kr ko t).sites) where
    pub refused_left : x < border kl kr ko t → refused order (meaning_of kl kr ko t) x ≡ refused order left x
    refused_left h = alike (meaning_of kl kr ko t) left x x within (omega arith) young left_young (status_left kl kr ko t x h)

    pub refused_right : border kl kr ko t ≤ x → refused order (meaning_of kl kr ko t) x ≡ refused order right (x - border kl kr ko t)
    refused_right h = alike (meaning_of kl kr ko t) right x (x - border kl kr ko t) within (omega arith) young right_young (status_right kl kr ko t x h)

  -- A move of a gateway is accepted once it is due.
  module _ (ll : Obeys kl) (lr : Obeys kr) (lo : Obeys ko) where
    pub left_move_accepted : due (left_side kl kr ko t) outer ≡ true → move_refused t.left_gate left (last left) outer 0 ≡ None
    left_move_accepted = move_accepted (left_side kl kr ko t) outer (sound_linked kl kr ko t ll lr lo v).here left_young outer_young

    pub right_move_accepted : due (right_side kl kr ko t) outer ≡ true → move_refused t.right_gate right (last right) outer 1 ≡ None
    right_move_accepted = move_accepted (right_side kl kr ko t) outer (sound_linked kl kr ko t ll lr lo v).there right_young outer_young
