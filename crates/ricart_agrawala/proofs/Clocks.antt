-- What one field of an array's elements reads as, after an element is written.
use Rattle.std.proofs.Common.{◌≡◌, ℕ, ◌<◌, List, length, get_or, set, sym, ap, ◌∙◌, inl, inr}
use Rattle.std.proofs.lemmas.Bool.{cases_eq}
use Rattle.std.proofs.lemmas.List.{get_or-set_same, get_or-set_other, get_or_default}
use Rattle.counting.specs.Sums.{upd}
use Rattle.counting.proofs.Sums.{upd_same, upd_other}

module _ {A B : Type 0} (field : A → B) (xs : List A) (i : ℕ) (v d : A) (within : i < length xs) where
  pub written_field : (x : B) → field v ≡ x → (k : ℕ) → field (get_or (set xs i v) k d) ≡ upd (λ j. field (get_or xs j d)) i x k
  written_field x e k = elim (cases_eq k i) [
    | inl q ↦ rw q (ap field (get_or-set_same xs i v d within) ∙ e ∙ sym (upd_same (λ j. field (get_or xs j d)) i x))
    | inr ne ↦ ap field (get_or-set_other xs i k v d ne) ∙ sym (upd_other (λ j. field (get_or xs j d)) i x k ne)
  ]

  -- The field is written as it was read, whatever stands past the end.
  pub kept_field : (e : A) → field v ≡ field (get_or xs i e) → (k : ℕ) → field (get_or (set xs i v) k d) ≡ field (get_or xs k d)
  kept_field e same k = elim (cases_eq k i) [
    | inl q ↦ rw q (ap field (get_or-set_same xs i v d within) ∙ same ∙ ap field (get_or_default xs i e d within))
    | inr ne ↦ ap field (get_or-set_other xs i k v d ne)
  ]
