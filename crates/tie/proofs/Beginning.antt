-- What parking the three parts and setting the gateways comes to: the tie is parked.
use Rattle.std.proofs.Common.{◌≡◌, ℕ, subst}
use Rattle.manager.specs.Kinds.{Kind}
use Rattle.gateway.specs.Automaton.{last}
use Rattle.tie_rules.specs.Reading.{border}
use Rattle.tie_rules.specs.Rules.{Parks, parks_left, parks_right}
use Rattle.tie_rules.specs.State.{Tie}
use Rattle.gateway.specs.declared.state.Gateway.TheVariants.{Out, In}
use Rattle.tie.specs.Places.{PlacedAt}
use Rattle.tie.specs.declared.sites.Place.TheVariants.{Left, Right}

module _ {L R O : Type 0} (kl : Kind L) (kr : Kind R) (ko : Kind O) (t t' : Tie L R O) (i j : ℕ) where
  pub parked_left : PlacedAt (border kl kr ko t) i (Left j) → kl.parks t.left j t'.left → kr.parks t.right (last (kr.meaning t.right)) t'.right → ko.parks t.outer 0 t'.outer → t'.left_gate ≡ In → t'.right_gate ≡ Out → t'.age ≡ 0 → Parks kl kr ko t i t'
  parked_left (h, e) left right outer left_gate right_gate age =
      parks_left t'.left t'.right t'.outer h (subst (λ (n : ℕ). kl.parks t.left n t'.left) e left) right outer (λ k. record { left = t'.left; right = t'.right; outer = t'.outer; left_gate = left_gate k; right_gate = right_gate k; age = age k })

  pub parked_right : PlacedAt (border kl kr ko t) i (Right j) → kl.parks t.left (border kl kr ko t) t'.left → kr.parks t.right j t'.right → ko.parks t.outer 1 t'.outer → t'.left_gate ≡ Out → t'.right_gate ≡ In → t'.age ≡ 0 → Parks kl kr ko t i t'
  parked_right (h, e) left right outer left_gate right_gate age =
      parks_right t'.left t'.right t'.outer h left (subst (λ (n : ℕ). kr.parks t.right n t'.right) e right) outer (λ k. record { left = t'.left; right = t'.right; outer = t'.outer; left_gate = left_gate k; right_gate = right_gate k; age = age k })
