-- Each of the things under way, carried out in its part, is a step of the tie.
use Rattle.std.proofs.Common.{◌≡◌, ℕ, ◌<◌, Some, None, Ok, Option, Result, sym, refl, ap, ◌∙◌, subst, arith}
use Rattle.std.proofs.lemmas.Bool.Decides.{nat_tests}
use Rattle.manager.specs.Effects.{Granted}
use Rattle.manager.specs.Kinds.{Kind, Obeys}
use Rattle.manager.specs.Meaning.{Meaning, limit}
use Rattle.manager.specs.Refusals.{refused, step_order}
use Rattle.manager.specs.declared.refusal.Refusal.{Refusal}
use Rattle.tie_rules.specs.Invariant.{Sound}
use Rattle.gateway.specs.Automaton.{last, link}
use Rattle.tie_rules.specs.Reading.{border, lifted}
use Rattle.tie_rules.specs.Rules.{Steps, left_steps, right_steps, outer_steps, left_moves, right_moves}
use Rattle.tie_rules.specs.State.{Tie, next}
use Rattle.gateway.specs.declared.state.Gateway.{Gateway}
use Rattle.tie_rules.proofs.Refused.{left_step_accepted, right_step_accepted, outer_step_accepted, left_move_accepted, right_move_accepted}
use Rattle.tie.specs.Stepping.{StepsIsland, StepsOuter, MovesGateway}
use Rattle.tie.specs.Places.{own}
use Rattle.tie.specs.Things.{Numbered}
use Rattle.tie.specs.declared.things.Thing.TheVariants.{Left, Right, Outer, LeftMove, RightMove}

-- A grant names a site, so one that is not the gateway is below it.
own_lifted : (m m' : Meaning) (offset : ℕ) (grant : Option ℕ) → Granted m grant m' → own (last m) offset grant ≡ lifted (last m) offset grant
own_lifted m m' offset None granted = refl
own_lifted m m' offset (Some i) granted = let within : i < m.sites = granted.0 in grind (arith, nat_tests)

step_lifted : {I : Type 0} (ki : Kind I) → Obeys ki → (p p' : I) (j offset : ℕ) (r : Result (Option ℕ) Refusal) → ki.sound p →
    refused step_order (ki.meaning p) j ≡ None → StepsIsland ki offset p j p' r →
    (granted : Option ℕ) × (r ≡ Ok (lifted (last (ki.meaning p)) offset granted)) × ki.steps p j granted p'
step_lifted ki laws p p' j offset r sound none carried =
    let (granted, ok, did) = carried sound none in
    (granted, ok ∙ ap Ok (own_lifted (ki.meaning p) (ki.meaning p') offset granted (laws.stepping p p' j granted sound none did).1.granted), did)

module _ {L R O : Type 0} {kl : Kind L} {kr : Kind R} {ko : Kind O} {t : Tie L R O} (v : Sound kl kr ko t) (young : t.age < limit) (k : ℕ)
    (r : Result (Option ℕ) Refusal) where
  -- The tie answers the grant of a step that leads to t'.
  abbrev Stepped : Tie L R O → Type 0
  Stepped t' = (grant : Option ℕ) × (r ≡ Ok grant) × Steps kl kr ko t k grant t'

  pub left_carried : Obeys kl → (j : ℕ) (l : L) (gate : Gateway) → gate ≡ t.left_gate → Numbered kl kr ko t k (Left j) →
      StepsIsland kl 0 t.left j l r → Stepped (next t l t.right t.outer gate t.right_gate)
  left_carried laws j l gate same (is, within) carried =
      let (granted, ok, did) = step_lifted kl laws t.left l j 0 r v.left (left_step_accepted kl kr ko t v young j within) carried in
      let did_so = subst (λ (n : ℕ). kl.steps t.left n granted l) (sym is) did in
      let after = ap (λ (g : Gateway). next t l t.right t.outer g t.right_gate) same in
      (lifted (border kl kr ko t) 0 granted, ok, left_steps granted l (omega (arith, is, within)) did_so refl after)

  pub right_carried : Obeys kr → (j offset : ℕ) (right : R) (gate : Gateway) → gate ≡ t.right_gate → offset ≡ border kl kr ko t →
      Numbered kl kr ko t k (Right j) → StepsIsland kr offset t.right j right r → Stepped (next t t.left right t.outer t.left_gate gate)
  right_carried laws j offset right gate same here (is, within) carried =
      let (granted, ok, did) = step_lifted kr laws t.right right j offset r v.right (right_step_accepted kl kr ko t v young j within) carried in
      let grants = λ (n : ℕ). lifted (last (kr.meaning t.right)) n granted in
      let after = ap (λ (g : Gateway). next t t.left right t.outer t.left_gate g) same in
      (grants offset, ok, right_steps j granted right is within did (ap grants here) after)

  pub outer_carried : (j : ℕ) (o : O) → Numbered kl kr ko t k (Outer j) → StepsOuter ko t.outer j o r →
      Stepped (next t t.left t.right o t.left_gate t.right_gate)
  outer_carried j o (is, within) carried =
      let (granted, ok, did) = carried v.outer (outer_step_accepted kl kr ko t v young j within) in
      (None, ok, outer_steps j granted o is within did refl refl)

  module _ (ll : Obeys kl) (lr : Obeys kr) (lo : Obeys ko) where
    pub left_moved : (l : L) (gate : Gateway) (o : O) → Numbered kl kr ko t k LeftMove →
        MovesGateway kl ko 0 (link t.left_gate t.left t.outer) (link gate l o) r → Stepped (next t l t.right o gate t.right_gate)
    left_moved l gate o (is, due) moves =
        let (ok, pass) = moves v.left v.outer (left_move_accepted kl kr ko t v young ll lr lo due) in
        (None, ok, left_moves l gate o is pass refl refl)

    pub right_moved : (right : R) (gate : Gateway) (o : O) → Numbered kl kr ko t k RightMove →
        MovesGateway kr ko 1 (link t.right_gate t.right t.outer) (link gate right o) r → Stepped (next t t.left right o t.left_gate gate)
    right_moved right gate o (is, due) moves =
        let (ok, pass) = moves v.right v.outer (right_move_accepted kl kr ko t v young ll lr lo due) in
        (None, ok, right_moves right gate o is pass refl refl)
