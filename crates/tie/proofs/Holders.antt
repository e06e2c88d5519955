-- The holder that a tie shows is the left island's, if it is one of the tie's sites, or else the right's.
use Rattle.std.proofs.Common.{◌≡◌, ℕ, Some, None, Option, sym, refl, ap, ◌∙◌, ap₂, arith}
use Rattle.std.proofs.lemmas.Bool.Decides.{nat_tests}
use Rattle.std.specs.Option.{MatchOption, option_or}
use Rattle.manager.specs.Answers.{holder_shown}
use Rattle.manager.specs.Kinds.{Kind}
use Rattle.gateway.specs.Automaton.{last}
use Rattle.tie_rules.specs.Reading.{border, meaning_of}
use Rattle.tie_rules.specs.State.{Tie}
use Rattle.tie_rules.proofs.Questions.{own_holder, holder_from_parts}
use Rattle.tie.specs.Places.{own, reachable, own_holder_of}

reachable_own : (gateway offset : ℕ) (o : Option ℕ) → reachable (own gateway offset o) ≡ own_holder gateway offset o
reachable_own gateway offset None = refl
reachable_own gateway offset (Some i) = grind (arith, nat_tests)

module _ {L R O : Type 0} (kl : Kind L) (kr : Kind R) (ko : Kind O) (t : Tie L R O) where
  abbrev left_holder : Option ℕ
  left_holder = own_holder_of (kl.meaning t.left) 0

  abbrev right_holder : Option ℕ
  right_holder = own_holder_of (kr.meaning t.right) (border kl kr ko t)

  found : holder_shown (meaning_of kl kr ko t) ≡ option_or left_holder right_holder
  found =
      holder_from_parts kl kr ko t ∙ ap₂ option_or (sym (reachable_own (border kl kr ko t) 0 (holder_shown (kl.meaning t.left))))
      (sym (reachable_own (last (kr.meaning t.right)) (border kl kr ko t) (holder_shown (kr.meaning t.right))))

  -- The left island's holder, or else what is asked then.
  pub holds : (near shown : Option ℕ) (asked : Type 0) → near ≡ left_holder → (asked → shown ≡ right_holder) →
      MatchOption near asked (λ i. shown ≡ Some i) → shown ≡ holder_shown (meaning_of kl kr ko t)
  holds None shown asked none right found_it = right found_it ∙ ap (λ (p : Option ℕ). option_or p right_holder) none ∙ sym found
  holds (Some i) shown asked is right found_it = found_it ∙ ap (λ (p : Option ℕ). option_or p right_holder) is ∙ sym found
