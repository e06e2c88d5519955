-- What a tie's meaning shows of its two sides, told alike from either side.
use Rattle.std.proofs.Common.{◌≡◌, ℕ, ◌+◌, ◌-◌, ◌*◌, ◌<◌, min, cond, ltb, ◌⊎◌, refl, ap, ◌∙◌, inl, inr, arith}
use Rattle.std.proofs.lemmas.Bool.{cases_lt, cond-true, cond-false, lt-ltb, le-ltb}
use Rattle.manager.specs.Meaning.{Meaning, limit}
use Rattle.tie_rules.specs.Reading.{joined, largest, things}
use Rattle.tie_rules.specs.Sides.{Side, Own, moves, barred_on}

-- The tie's site x is a site of side a.
abbrev pub On : Side → ℕ → Type 0
On a x = (i : ℕ) × Own a i × (x ≡ i + a.offset)

-- The sites of side a.
pub record Shows (m : Meaning) (a b : Side) (o : Meaning) : Type 0 where
  pub within : (i : ℕ) → Own a i → i + a.offset < m.sites
  pub status : (i : ℕ) → Own a i → m.status (i + a.offset) ≡ a.island.status i
  pub called : (i : ℕ) → Own a i → m.called (i + a.offset) ≡ a.island.called i
  pub barred : (i : ℕ) → Own a i → m.barred (i + a.offset) ≡ barred_on a b o i

pub record Views (m : Meaning) (a b : Side) (o : Meaning) (old : ℕ) : Type 0 where
  pub here : Shows m a b o
  pub there : Shows m b a o
  pub side : (x : ℕ) → x < m.sites → On a x ⊎ On b x
  pub apart : (i j : ℕ) → Own a i → Own b j → i + a.offset ≡ j + b.offset → ⊥
  pub sites : m.sites ≡ min 64 (a.gateway + b.gateway)
  pub underway : m.underway ≡ min limit (things a b o)
  pub work : m.work ≡ a.island.work + b.island.work + o.work + (largest a b o + 1) * moves a b
  pub toll : m.toll ≡ 9 * (largest a b o + 1)
  pub age : m.age ≡ old

module _ {m : Meaning} {a b : Side} {o : Meaning} (w : Shows m a b o) {x : ℕ} (p : On a x) where
  pub status_on : m.status x ≡ a.island.status p.0
  status_on = ap m.status p.2 ∙ w.status p.0 p.1

  pub called_on : m.called x ≡ a.island.called p.0
  called_on = ap m.called p.2 ∙ w.called p.0 p.1

  pub barred_at : m.barred x ≡ barred_on a b o p.0
  barred_at = ap m.barred p.2 ∙ w.barred p.0 p.1

-- Two functions end to end, the second after n numbers of the first.
first_shown : {X : Type 0} (f g : ℕ → X) (n d i : ℕ) → d ≡ 0 → i < n → cond (ltb (i + d) n) (f (i + d)) (g (i + d - n)) ≡ f i
first_shown f g n d i e l = cond-true (ltb (i + d) n) (f (i + d)) (g (i + d - n)) (lt-ltb (i + d) n (omega arith)) ∙ ap f (omega arith)

second_shown : {X : Type 0} (f g : ℕ → X) (n d i : ℕ) → d ≡ n → cond (ltb (i + d) n) (f (i + d)) (g (i + d - n)) ≡ g i
second_shown f g n d i e = cond-false (ltb (i + d) n) (f (i + d)) (g (i + d - n)) (le-ltb (i + d) n (omega arith)) ∙ ap g (omega arith)

module _ (a b : Side) (o : Meaning) where
  pub moves_turned : moves a b ≡ moves b a
  moves_turned = grind arith

  pub largest_turned : largest a b o ≡ largest b a o
  largest_turned = omega arith

  pub views_turned : (m : Meaning) (age : ℕ) → Views m a b o age → Views m b a o age
  views_turned m age v = record {
    here = v.there;
    there = v.here;
    side = λ x l. elim (v.side x l) [ inl p ↦ inr p | inr p ↦ inl p ];
    apart = λ i j p q e. v.apart j i q p (cc);
    sites = omega (arith, v.sites);
    underway = omega (arith, v.underway);
    work =
        let p = largest_turned in
        let q = moves_turned in
        let sum : a.island.work + b.island.work + o.work ≡ b.island.work + a.island.work + o.work = omega arith in
        let w = v.work in
        cc;
    toll = omega (arith, v.toll);
    age = v.age;
  }

  -- A left side's sites begin at 0, a right one's after them.
  pub joined_views : (age : ℕ) → a.offset ≡ 0 → b.offset ≡ a.gateway → Views (joined a b o age) a b o age
  joined_views age zero_first then = record {
    here = record {
      within = λ i p. omega arith;
      status = λ i p. first_shown a.island.status b.island.status a.gateway a.offset i zero_first p.0;
      called = λ i p. first_shown a.island.called b.island.called a.gateway a.offset i zero_first p.0;
      barred = λ i p. first_shown (barred_on a b o) (barred_on b a o) a.gateway a.offset i zero_first p.0;
    };
    there = record {
      within = λ i p. omega arith;
      status = λ i p. second_shown a.island.status b.island.status a.gateway b.offset i then;
      called = λ i p. second_shown a.island.called b.island.called a.gateway b.offset i then;
      barred = λ i p. second_shown (barred_on a b o) (barred_on b a o) a.gateway b.offset i then;
    };
    side = λ x l. elim (cases_lt x a.gateway) [
      | inl h ↦ inl (x, (h, omega arith), omega arith)
      | inr h ↦ inr (x - a.gateway, (omega arith, omega arith), omega arith)
    ];
    apart = λ i j p q e. omega arith;
    sites = refl;
    underway = refl;
    work = refl;
    toll = refl;
    age = refl;
  }
