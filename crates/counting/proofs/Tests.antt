-- The laws of searching the numbers below n: for one that passes a test, and for the least of those in some order.
use Rattle.std.proofs.Common.{◌≡◌, ℕ, zero, suc, ◌+◌, ◌<◌, Bool, true, false, ◌||◌, sym, refl, ap, ◌∙◌, inl, inr, add-one, arith}
use Rattle.std.proofs.lemmas.Bool.{or_cases, or_from, or_left, or_right, cases_eq, cases_Bool, both_ways}
use Rattle.counting.specs.Tests.{any}

pub any_next : (test : ℕ → Bool) (n : ℕ) → any test (n + 1) ≡ (any test n || test n)
any_next test n = ap (any test) (add-one n)

pub any_some : (test : ℕ → Bool) (n : ℕ) → any test n ≡ true → (j : ℕ) × (j < n) × (test j ≡ true)
any_some test zero h = grind arith
any_some test (suc n) h = elim (or_cases (any test n) (test n) h) [
  | inl p ↦ let w = any_some test n p in (w.0, omega (arith, w.1), w.2)
  | inr p ↦ (n, omega arith, p)
]

pub any_from : (test : ℕ → Bool) (n j : ℕ) → j < n → test j ≡ true → any test n ≡ true
any_from test zero j h p = absurd (omega arith)
any_from test (suc n) j h p = elim (cases_eq j n) [
  | inl e ↦ or_right (any test n) (test n) (cc)
  | inr ne ↦ or_left (any test n) (test n) (any_from test n j (omega arith) p)
]

-- A search that goes up by one: a test that fails, and one that passes.
pub any_stays : (test : ℕ → Bool) (n : ℕ) → any test n ≡ false → false ≡ test n → any test (n + 1) ≡ false
any_stays test n none e = any_next test n ∙ or_from (any test n) (test n) none (sym e)

pub any_here : (test : ℕ → Bool) (n j : ℕ) → j < n → true ≡ test j → true ≡ any test n
any_here test n j h e = sym (any_from test n j h (sym e))

pub any_none : (test : ℕ → Bool) (n : ℕ) → ((j : ℕ) → j < n → test j ≡ true → ⊥) → any test n ≡ false
any_none test n none = elim (cases_Bool (any test n)) [
  | inl p ↦ let w = any_some test n p in absurd (none w.0 w.1 w.2)
  | inr p ↦ p
]

pub none_any : (test : ℕ → Bool) (n j : ℕ) → any test n ≡ false → j < n → test j ≡ true → ⊥
none_any test n j none h p = both_ways (any test n) none (any_from test n j h p)

-- Of two tests, where whatever passes the one passes the other.
pub any_more : (test test' : ℕ → Bool) (n : ℕ) → ((j : ℕ) → j < n → test j ≡ true → test' j ≡ true) → any test n ≡ true → any test' n ≡ true
any_more test test' n more h =
    let w = any_some test n h in any_from test' n w.0 w.1 (more w.0 w.1 w.2)

-- Of the numbers below n that pass the test, m comes first.
pub record First (test : ℕ → Bool) (earlier : ℕ → ℕ → Bool) (n m : ℕ) : Type 0 where
  pub within : m < n
  pub passes : test m ≡ true
  pub least : (j : ℕ) → j < n → test j ≡ true → earlier j m ≡ true → ⊥

module _ (test : ℕ → Bool) (earlier : ℕ → ℕ → Bool) (irreflexive : (i : ℕ) → earlier i i ≡ true → ⊥) (transitive : (i j k : ℕ) → earlier i j ≡ true → earlier j k ≡ true → earlier i k ≡ true) where
  -- One more number, after those of which m comes first.
  first_more : (n m : ℕ) → First test earlier n m → (passes comes : Bool) → test n ≡ passes → earlier n m ≡ comes → (l : ℕ) × First test earlier (suc n) l
  first_more n m f true true p q = (
    n,
    record {
      within = omega arith;
      passes = p;
      least = λ j h t e. elim (cases_eq j n) [
        | inl s ↦ irreflexive n (cc)
        | inr ne ↦ f.least j (omega arith) t (transitive j n m e q)
      ];
    },
  )
  first_more n m f true false p q = (m, record { within = omega (arith, f.within); passes = f.passes; least = λ j h t e. elim (cases_eq j n) [ inl s ↦ both_ways (earlier n m) q (cc) | inr ne ↦ f.least j (omega arith) t e ] })
  first_more n m f false comes p q = (m, record { within = omega (arith, f.within); passes = f.passes; least = λ j h t e. elim (cases_eq j n) [ inl s ↦ both_ways (test n) p (cc) | inr ne ↦ f.least j (omega arith) t e ] })

  -- If a number passes, one of those that do comes first.
  pub first_exists : (n i : ℕ) → i < n → test i ≡ true → (m : ℕ) × First test earlier n m
  first_exists zero i h p = absurd (omega arith)
  first_exists (suc n) i h p = elim (cases_Bool (any test n)) [
    | inl some ↦
        let w = any_some test n some in
        let r = first_exists n w.0 w.1 w.2 in
        first_more n r.0 r.1 (test n) (earlier n r.0) refl refl
    | inr none ↦ (
      i,
      record {
        within = h;
        passes = p;
        least = λ j b t e. elim (cases_eq j i) [
          | inl s ↦ irreflexive i (cc)
          | inr ne ↦ elim (cases_eq j n) [
            | inl s ↦ none_any test n i none (omega arith) p
            | inr other ↦ none_any test n j none (omega arith) t
          ]
        ];
      },
    )
  ]
