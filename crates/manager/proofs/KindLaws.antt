-- A kind whose managers are read as states of an algorithm keeps the laws, if the algorithm's rules do.
use Rattle.std.proofs.Common.{◌≡◌, ℕ, ◌<◌, Option, sym, subst}
use Rattle.manager.specs.Effects.{Parked, Asked, Freed, Stepped}
use Rattle.manager.specs.Laws.{Bounded, Lawful, Laws}
use Rattle.manager.specs.Meaning.{Meaning}
use Rattle.manager.specs.declared.status.Status.TheVariants.{Idle, Holding}
use Rattle.manager.proofs.Accepted.{accepted_site, accepted_ask, accepted_free}

module _ {M S : Type 0} (state_of : M → S) (meaning_of : S → Meaning) (Sound : S → Type 0)
    (parked asked freed : S → ℕ → S) (delivered : S → ℕ → Option ℕ → S → Type 0) where
  -- What the rules of a park, an ask, a free and a step have to keep.
  abbrev pub ParkLawful : Type 0
  ParkLawful =
      (m : M) (g : ℕ) → g < (meaning_of (state_of m)).sites →
      Sound (parked (state_of m) g) × Parked (meaning_of (state_of m)) g (meaning_of (parked (state_of m) g))

  abbrev pub AskLawful : Type 0
  AskLawful =
      (s : S) (i : ℕ) → Sound s → i < (meaning_of s).sites → (meaning_of s).status i ≡ Idle →
      Sound (asked s i) × Asked (meaning_of s) i (meaning_of (asked s i))

  abbrev pub FreeLawful : Type 0
  FreeLawful =
      (s : S) (i : ℕ) → Sound s → i < (meaning_of s).sites → (meaning_of s).status i ≡ Holding →
      Sound (freed s i) × Freed (meaning_of s) i (meaning_of (freed s i))

  abbrev pub StepLawful : Type 0
  StepLawful = (s : S) (k : ℕ) (grant : Option ℕ) (t : S) → Sound s → delivered s k grant t → Sound t × Stepped (meaning_of s) grant (meaning_of t)

  pub kind_laws : ((m : M) → Bounded (meaning_of (state_of m))) → ((s : S) → Sound s → Lawful (meaning_of s)) →
      ParkLawful → AskLawful → FreeLawful → StepLawful →
      Laws (λ m. meaning_of (state_of m)) (λ m. Sound (state_of m)) (λ m g n. state_of n ≡ parked (state_of m) g) (λ m i n. state_of n ≡ asked (state_of m) i)
      (λ m i n. state_of n ≡ freed (state_of m) i) (λ m k g n. delivered (state_of m) k g (state_of n))
  kind_laws bounded lawful park ask free step = record {
    bounded = bounded;
    lawful = λ m sound. lawful (state_of m) sound;
    parking = λ m n g accepted parks.
        let s = state_of m in
        subst (λ t. Sound t × Parked (meaning_of s) g (meaning_of t)) (sym parks) (park m g (accepted_site (meaning_of s) g accepted));
    asking = λ m n i sound accepted asks.
        let s = state_of m in
        let known = accepted_ask (meaning_of s) i accepted in
        subst (λ t. Sound t × Asked (meaning_of s) i (meaning_of t)) (sym asks) (ask s i sound known.0 known.2);
    freeing = λ m n i sound accepted frees.
        let s = state_of m in
        let known = accepted_free (meaning_of s) i accepted in
        subst (λ t. Sound t × Freed (meaning_of s) i (meaning_of t)) (sym frees) (free s i sound known.0 known.2);
    stepping = λ m n k grant sound accepted steps. step (state_of m) k grant (state_of n) sound steps;
  }
