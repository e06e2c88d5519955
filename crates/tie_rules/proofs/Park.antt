-- Parking a tie at a site of side a leaves the sides linked, and is a park at the tie.
use Rattle.std.proofs.Common.{◌≡◌, ℕ, ◌+◌, ◌<◌, ◌≤◌, false, sym, refl, ◌∙◌, inl, inr, mul-le-mul_left, arith}
use Rattle.std.proofs.lemmas.Bool.{cases_Bool, cases_eq, or_from}
use Rattle.manager.specs.Effects.{Parked}
use Rattle.manager.specs.Laws.{Lawful}
use Rattle.manager.specs.Meaning.{Meaning}
use Rattle.manager.specs.declared.status.Status.TheVariants.{Idle}
use Rattle.tie_rules.specs.Reading.{largest, things}
use Rattle.tie_rules.specs.Sides.{Side, at, moves}
use Rattle.gateway.specs.declared.state.Gateway.TheVariants.{Out, In}
use Rattle.tie_rules.proofs.Linked.{Linked}
use Rattle.tie_rules.proofs.Moves.{holder_settles}
use Rattle.tie_rules.proofs.Views.{On, Views, status_on, barred_at}

-- Nobody waits after a park, so nobody is called.
parked_uncalled : (m m' : Meaning) (g : ℕ) → Lawful m' → Parked m g m' → g < m.sites → m'.called g ≡ false
parked_uncalled m m' g v e l = elim (cases_Bool (m'.called g)) [
  | inr c ↦ c
  | inl c ↦
      let s = v.called_wanted g (omega (arith, e.sites)) c in
      absurd (elim (cases_eq s.0 g) [
        | inl q ↦ grind (arith, s.2, e.holds)
        | inr q ↦ grind (arith, s.2, e.others s.0 (omega (arith, s.1, e.sites)) q)
      ])
]

module _ (a b : Side) (o : Meaning) (near : a.island.sites ≡ a.gateway + 1) (far : b.island.sites ≡ b.gateway + 1) (post_a : a.post < o.sites) (post_b : b.post < o.sites) (apart : a.post ≡ b.post → ⊥)
    (m n o' : Meaning) (x : ℕ) (p : On a x) (ea : Parked a.island p.0 m) (eb : Parked b.island b.gateway n) (eo : Parked o a.post o') (lawful_a : Lawful m) (lawful_b : Lawful n) (lawful_o : Lawful o') where
  gateway_idle : m.status a.gateway ≡ Idle
  gateway_idle = ea.others a.gateway (omega arith) (λ e. omega (arith, p.1.0))

  pub park_linked : Linked (at a m In) (at b n Out) o'
  park_linked = record {
    here = record {
      lawful = lawful_a;
      sites = ea.sites ∙ near;
      post = omega (arith, eo.sites);
      stands = (gateway_idle, eo.holds);
      unreached = λ j l k. ea.others j (omega arith) (λ e. omega (arith, p.1.1));
    };
    there = record {
      lawful = lawful_b;
      sites = eb.sites ∙ far;
      post = omega (arith, eo.sites);
      stands = (eb.holds, eo.others b.post post_b (λ e. apart (sym e)));
      unreached = λ j l k. eb.others j (omega arith) (λ e. omega arith);
    };
    outer = lawful_o;
    apart = apart;
    unused = λ j l q r. eo.others j (omega (arith, eo.sites)) q;
  }

  park_quiet : things (at a m In) (at b n Out) o' ≡ 0
  park_quiet =
      let recalled = parked_uncalled o o' a.post lawful_o eo post_a in
      let called = parked_uncalled b.island n b.gateway lawful_b eb (omega arith) in
      rw (recalled, called) (omega (arith, ea.quiet, eb.quiet, eo.quiet))

  -- The site holds, so its side is settled: one gateway may be called in and the other recalled.
  park_moves : moves (at a m In) (at b n Out) ≡ 2
  park_moves = rw (holder_settles (at a m In) p.0 p.1.0 ea.holds)

  module _ (t t' : Meaning) (old : ℕ) (w : Views t a b o old) (w' : Views t' (at a m In) (at b n Out) o' 0) where
    unbarred : (y : ℕ) → y < t.sites → t'.barred y ≡ false
    unbarred y l = elim (w.side y l) [
      | inl q ↦ barred_at w'.here q ∙ rw gateway_idle (or_from (m.barred q.0) false (ea.unbarred q.0 (omega (arith, q.1.0))) refl)
      | inr q ↦ barred_at w'.there q ∙ or_from (o'.barred b.post) (m.barred a.gateway) (eo.unbarred b.post post_b) (ea.unbarred a.gateway (omega arith))
    ]

    few : moves (at a m In) (at b n Out) ≤ 2
    few = omega (arith, park_moves)

    pub park_shown : Parked t x t'
    park_shown = record {
      sites = w'.sites ∙ sym w.sites;
      toll = omega (arith, w.toll, w'.toll, ea.toll, eb.toll, eo.toll);
      holds = status_on w'.here p ∙ ea.holds;
      others = λ y l ne. elim (w.side y l) [
        | inl q ↦ status_on w'.here q ∙ ea.others q.0 (omega (arith, q.1.0)) (λ e. ne (omega (arith, p.2, q.2)))
        | inr q ↦ status_on w'.there q ∙ eb.others q.0 (omega (arith, q.1.0)) (λ e. omega (arith, q.1.0))
      ];
      quiet = omega (arith, w'.underway, park_quiet);
      unbarred = unbarred;
      work = omega (arith, w'.work, w'.toll, ea.work, eb.work, eo.work, mul-le-mul_left (largest (at a m In) (at b n Out) o' + 1) few);
      age = w'.age;
    }
