-- Parking the three parts of a tie, for a site on either side.
use Rattle.std.proofs.Common.{◌≡◌, ℕ, ◌+◌, ◌<◌, arith}
use Rattle.manager.specs.Effects.{Parked}
use Rattle.manager.specs.Kinds.{Kind, Obeys}
use Rattle.manager.specs.Meaning.{Meaning}
use Rattle.tie_rules.specs.Sides.{Side, at}
use Rattle.gateway.specs.declared.state.Gateway.{Gateway}
use Rattle.gateway.specs.declared.state.Gateway.TheVariants.{Out, In}
use Rattle.manager.proofs.Accepted.{site_accepted}
use Rattle.tie_rules.proofs.Acting.{part_side}
use Rattle.tie_rules.proofs.Linked.{Linked}
use Rattle.tie_rules.proofs.Park.{park_linked, park_shown}
use Rattle.tie_rules.proofs.Views.{On, Views}

-- Side a of island p, side b of island q and the outer manager o begin anew as p', q' and o', parked at the tie's site x.
pub record Begun {I J O : Type 0} (ki : Kind I) (kj : Kind J) (ko : Kind O) (a b : Side) (p : I) (q : J) (o : O) (x : ℕ) (p' : I) (q' : J) (o' : O) : Type 0 where
  pub sound : ki.sound p'
  pub other_sound : kj.sound q'
  pub outer_sound : ko.sound o'
  pub sites : (ki.meaning p').sites ≡ (ki.meaning p).sites
  pub other_sites : (kj.meaning q').sites ≡ (kj.meaning q).sites
  pub age : (ki.meaning p').age ≡ 0
  pub other_age : (kj.meaning q').age ≡ 0
  pub outer_age : (ko.meaning o').age ≡ 0
  pub linked : Linked (at a (ki.meaning p') In) (at b (kj.meaning q') Out) (ko.meaning o')
  pub shown : (t t' : Meaning) (old : ℕ) → Views t a b (ko.meaning o) old → Views t' (at a (ki.meaning p') In) (at b (kj.meaning q') Out) (ko.meaning o') 0 → Parked t x t'

module _ {I J O : Type 0} (ki : Kind I) (kj : Kind J) (ko : Kind O) (li : Obeys ki) (lj : Obeys kj) (lo : Obeys ko) (p : I) (q : J) (o : O) (gate_a gate_b : Gateway) (post_a post_b offset_a offset_b : ℕ) (apart : post_a ≡ post_b → ⊥) (within_a : post_a < 2) (within_b : post_b < 2) where
  abbrev a : Side
  a = part_side ki p gate_a post_a offset_a

  abbrev b : Side
  b = part_side kj q gate_b post_b offset_b

  pub park_acts : (x : ℕ) (on : On a x) (p' : I) (q' : J) (o' : O) → ki.parks p on.0 p' → kj.parks q b.gateway q' → ko.parks o post_a o' → Begun ki kj ko a b p q o x p' q' o'
  park_acts x on p' q' o' near_parks far_parks outer_parks =
      let near : a.island.sites ≡ a.gateway + 1 = omega (arith, (li.bounded p).fewest) in
      let far : b.island.sites ≡ b.gateway + 1 = omega (arith, (lj.bounded q).fewest) in
      let site_a : post_a < (ko.meaning o).sites = omega (arith, (lo.bounded o).fewest) in
      let site_b : post_b < (ko.meaning o).sites = omega (arith, (lo.bounded o).fewest) in
      let ea = li.parking p p' on.0 (site_accepted a.island on.0 (omega (arith, on.1.0))) near_parks in
      let eb = lj.parking q q' b.gateway (site_accepted b.island b.gateway (omega arith)) far_parks in
      let eo = lo.parking o o' post_a (site_accepted (ko.meaning o) post_a site_a) outer_parks in
      record {
        sound = ea.0;
        other_sound = eb.0;
        outer_sound = eo.0;
        sites = ea.1.sites;
        other_sites = eb.1.sites;
        age = ea.1.age;
        other_age = eb.1.age;
        outer_age = eo.1.age;
        linked = park_linked a b (ko.meaning o) near far site_a site_b apart (ki.meaning p') (kj.meaning q') (ko.meaning o') x on ea.1 eb.1 eo.1 (li.lawful p' ea.0) (lj.lawful q' eb.0) (lo.lawful o' eo.0);
        shown = park_shown a b (ko.meaning o) near far site_a site_b apart (ki.meaning p') (kj.meaning q') (ko.meaning o') x on ea.1 eb.1 eo.1 (li.lawful p' ea.0) (lj.lawful q' eb.0) (lo.lawful o' eo.0);
      }
