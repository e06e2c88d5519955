-- The first number below n that passes a test.
use Rattle.std.proofs.Common.{◌≡◌, ℕ, zero, suc, ◌<◌, Bool, true, false, cond, is_some, Some, None, Option, refl, ap, ◌∙◌, inl, inr, arith}
use Rattle.std.proofs.lemmas.Bool.{cases_eq}
use Rattle.manager.specs.Answers.{first}

-- It passes, and no smaller one does; or none does.
abbrev pub Finds : (ℕ → Bool) → ℕ → Option ℕ → Type 0
Finds test n (Some i) = (i < n) × (test i ≡ true) × ((j : ℕ) → j < i → test j ≡ false)
Finds test n None = (j : ℕ) → j < n → test j ≡ false

pub first_finds : (test : ℕ → Bool) (n : ℕ) → Finds test n (first test n)
first_finds test zero = λ j l. absurd (omega arith)
first_finds test (suc n) = go (first test n) (first_finds test n) (test n) refl
  where
    go : (o : Option ℕ) → Finds test n o → (b : Bool) → test n ≡ b → Finds test (suc n) (elim o [ Some i ↦ Some i | None ↦ cond b (Some n) None ])
    go (Some i) p b e = (omega (arith, p.0), p.1, p.2)
    go None p true e = (omega arith, e, p)
    go None p false e = λ j l. elim (cases_eq j n) [ inl q ↦ ap test q ∙ e | inr q ↦ p j (omega arith) ]

-- What is found so is the first.
pub finds_first : (test : ℕ → Bool) (n : ℕ) (o : Option ℕ) → Finds test n o → first test n ≡ o
finds_first test n o p = same (first test n) (first_finds test n) o p
  where
    same : (x : Option ℕ) → Finds test n x → (y : Option ℕ) → Finds test n y → x ≡ y
    same (Some i) p (Some j) q = ap Some (omega (arith, earlier i j p q, earlier j i q p))
      where
        earlier : (i j : ℕ) → Finds test n (Some i) → Finds test n (Some j) → i < j → ⊥
        earlier i j p q l = grind (arith, p.1, q.2 i l)
    same (Some i) p None q = absurd (grind (arith, p.1, q i p.0))
    same None p (Some j) q = absurd (grind (arith, q.1, p j q.0))
    same None p None q = refl

pub first_found : (test : ℕ → Bool) (n i : ℕ) → i < n → test i ≡ true → is_some (first test n) ≡ true
first_found test n i l h = go (first test n) (first_finds test n)
  where
    go : (o : Option ℕ) → Finds test n o → is_some o ≡ true
    go (Some j) p = refl
    go None p = absurd (grind (arith, p i l))

pub first_some : (test : ℕ → Bool) (n : ℕ) → is_some (first test n) ≡ true → (i : ℕ) × (i < n) × (test i ≡ true)
first_some test n h = go (first test n) (first_finds test n) h
  where
    go : (o : Option ℕ) → Finds test n o → is_some o ≡ true → (i : ℕ) × (i < n) × (test i ≡ true)
    go (Some j) p e = (j, p.0, p.1)
    go None p e = absurd (grind arith)
