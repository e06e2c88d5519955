-- A sound tie is two linked sides, and sides that a call leaves linked make a sound tie.
use Rattle.std.proofs.Common.{◌≡◌, ℕ, ◌+◌, ◌-◌, ◌<◌, ◌≤◌, sym, refl, ap, subst, ap₂, arith}
use Rattle.manager.specs.Kinds.{Kind, Obeys}
use Rattle.manager.specs.Laws.{Bounded}
use Rattle.manager.specs.Meaning.{Meaning, limit}
use Rattle.tie_rules.specs.Invariant.{Stands, Unreached, Sound}
use Rattle.tie_rules.specs.Reading.{joined, border, left_side, right_side, meaning_of}
use Rattle.tie_rules.specs.Sides.{Side, at}
use Rattle.tie_rules.specs.State.{Tie, next}
use Rattle.gateway.specs.declared.state.Gateway.{Gateway}
use Rattle.tie_rules.proofs.Acting.{Acted}
use Rattle.tie_rules.proofs.Linked.{Linked, linked_turned}
use Rattle.tie_rules.proofs.Views.{On, Views, views_turned, joined_views}

module _ {L R O : Type 0} (kl : Kind L) (kr : Kind R) (ko : Kind O) (t : Tie L R O) where
  -- The sides of a later tie, by those of this one: no part has changed its number of sites.
  module _ (t' : Tie L R O) (left_sites : (kl.meaning t'.left).sites ≡ (kl.meaning t.left).sites) (right_sites : (kr.meaning t'.right).sites ≡ (kr.meaning t.right).sites) where
    abbrev left_after : Side
    left_after = at (left_side kl kr ko t) (kl.meaning t'.left) t'.left_gate

    abbrev right_after : Side
    right_after = at (right_side kl kr ko t) (kr.meaning t'.right) t'.right_gate

    left_same : left_after ≡ left_side kl kr ko t'
    left_same = ap (λ (n : ℕ). record { island = kl.meaning t'.left; gate = t'.left_gate; gateway = n - 1; post = 0; offset = 0 }) (sym left_sites)

    right_same : right_after ≡ right_side kl kr ko t'
    right_same =
        ap₂ (λ (n k : ℕ). record { island = kr.meaning t'.right; gate = t'.right_gate; gateway = n - 1; post = 1; offset = k - 1 }) (sym right_sites) (sym left_sites)

    pub views_after : Views (meaning_of kl kr ko t') left_after right_after (ko.meaning t'.outer) t'.age
    views_after =
        let o = ko.meaning t'.outer in
        subst (λ (m : Meaning). Views m left_after right_after o t'.age) (ap₂ (λ (a b : Side). joined a b o t'.age) left_same right_same) (joined_views left_after right_after o t'.age refl refl)

    pub sound_after : kl.sound t'.left → kr.sound t'.right → ko.sound t'.outer → (kl.meaning t'.left).age ≤ t'.age → (kr.meaning t'.right).age ≤ t'.age → (ko.meaning t'.outer).age ≤ t'.age → Linked left_after right_after (ko.meaning t'.outer) → Sound kl kr ko t'
    sound_after left right outer left_young right_young outer_young v = record {
      left = left;
      right = right;
      outer = outer;
      left_young = left_young;
      right_young = right_young;
      outer_young = outer_young;
      left_stands = subst (λ (a : Side). Stands a (ko.meaning t'.outer)) left_same v.here.stands;
      right_stands = subst (λ (a : Side). Stands a (ko.meaning t'.outer)) right_same v.there.stands;
      left_unreached = subst Unreached left_same v.here.unreached;
      right_unreached = subst Unreached right_same v.there.unreached;
      outer_unused = λ j l k. v.unused j l (λ e. omega arith) (λ e. omega arith);
    }

  pub views : Views (meaning_of kl kr ko t) (left_side kl kr ko t) (right_side kl kr ko t) (ko.meaning t.outer) t.age
  views = joined_views (left_side kl kr ko t) (right_side kl kr ko t) (ko.meaning t.outer) t.age refl refl

  module _ (x : ℕ) (l : x < (meaning_of kl kr ko t).sites) where
    -- Which side a site of the tie is on, and its number there.
    abbrev pub on_left : x < border kl kr ko t → On (left_side kl kr ko t) x
    on_left h = (x, (h, omega arith), omega arith)

    abbrev pub on_right : border kl kr ko t ≤ x → On (right_side kl kr ko t) x
    on_right h = (x - border kl kr ko t, (omega arith, omega arith), omega arith)

  module _ (ll : Obeys kl) (lr : Obeys kr) (lo : Obeys ko) where
    -- An island has a gateway and another site, so the tie has two sites at least.
    pub bounded : t.age ≤ limit → Bounded (meaning_of kl kr ko t)
    bounded young = record {
      fewest = omega (arith, (ll.bounded t.left).fewest, (lr.bounded t.right).fewest);
      most = omega arith;
      underway = omega arith;
      age = young;
    }

    module _ (v : Sound kl kr ko t) where
      pub sound_linked : Linked (left_side kl kr ko t) (right_side kl kr ko t) (ko.meaning t.outer)
      sound_linked = record {
        here = record {
          lawful = ll.lawful t.left v.left;
          sites = omega (arith, (ll.bounded t.left).fewest);
          post = omega (arith, (lo.bounded t.outer).fewest);
          stands = v.left_stands;
          unreached = v.left_unreached;
        };
        there = record {
          lawful = lr.lawful t.right v.right;
          sites = omega (arith, (lr.bounded t.right).fewest);
          post = omega (arith, (lo.bounded t.outer).fewest);
          stands = v.right_stands;
          unreached = v.right_unreached;
        };
        outer = lo.lawful t.outer v.outer;
        apart = λ e. omega arith;
        unused = λ j l p q. v.outer_unused j l (omega arith);
      }

      -- What the left side and the outer manager do, or the right side and the outer manager, is done by the tie.
      pub left_acted : (l : L) (gate : Gateway) (o : O) (effect : Meaning → Meaning → Type 0) → Acted kl ko (left_side kl kr ko t) (right_side kl kr ko t) t.left t.outer l gate o effect → Sound kl kr ko (next t l t.right o gate t.right_gate) × effect (meaning_of kl kr ko t) (meaning_of kl kr ko (next t l t.right o gate t.right_gate))
      left_acted l gate o effect e =
          let t' = next t l t.right o gate t.right_gate in (
            sound_after t' e.sites refl e.sound v.right e.outer_sound (omega (arith, e.age, v.left_young)) (omega (arith, v.right_young)) (omega (arith, e.outer_age, v.outer_young)) e.linked,
            e.shown (meaning_of kl kr ko t) (meaning_of kl kr ko t') t.age views (views_after t' e.sites refl),
          )

      pub right_acted : (r : R) (gate : Gateway) (o : O) (effect : Meaning → Meaning → Type 0) → Acted kr ko (right_side kl kr ko t) (left_side kl kr ko t) t.right t.outer r gate o effect → Sound kl kr ko (next t t.left r o t.left_gate gate) × effect (meaning_of kl kr ko t) (meaning_of kl kr ko (next t t.left r o t.left_gate gate))
      right_acted r gate o effect e =
          let t' = next t t.left r o t.left_gate gate in (
            sound_after t' refl e.sites v.left e.sound e.outer_sound (omega (arith, v.left_young)) (omega (arith, e.age, v.right_young)) (omega (arith, e.outer_age, v.outer_young)) (linked_turned e.linked),
            e.shown (meaning_of kl kr ko t) (meaning_of kl kr ko t') t.age (views_turned (left_side kl kr ko t) (right_side kl kr ko t) (ko.meaning t.outer) (meaning_of kl kr ko t) t.age views) (views_turned (left_side kl kr ko t) (at (right_side kl kr ko t) (kr.meaning r) gate) (ko.meaning o) (meaning_of kl kr ko t') (t.age + 1) (views_after t' refl e.sites)),
          )
