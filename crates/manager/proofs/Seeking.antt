-- What a search along a list for the first element that passes a test finds.
use Rattle.std.proofs.Common.{◌≡◌, ℕ, ◌<◌, Bool, false, ltb, List, length, get_or, take, Some, None, ap, ◌∙◌, sym, inl, inr, min, arith}
use Rattle.std.proofs.lemmas.Bool.{cond-true, cond-false, lt-ltb, le-ltb, cases_lt}
use Rattle.std.proofs.lemmas.List.{get_or-take, get_or_past, length-take}
use Rattle.std.proofs.lemmas.List.Sums.{fails_before_first, passes_at_first}
use Rattle.std.specs.List.{position, position_or_len}
use Rattle.manager.specs.Answers.{first}
use Rattle.manager.proofs.First.{finds_first}

module _ {X : Type 0} (p : X → Bool) (d : X) (fails : p d ≡ false) (xs : List X) (n : ℕ) where
  shorter : length (take n xs) ≡ min n (length xs)
  shorter = length-take n xs

  same : (j : ℕ) → j < n → p (get_or (take n xs) j d) ≡ p (get_or xs j d)
  same j h = ap p (get_or-take n xs j d h)

  -- Past the list's end, too, where the default is read.
  fails_before : (j : ℕ) → j < n → j < position_or_len p (take n xs) → p (get_or xs j d) ≡ false
  fails_before j h l = sym (same j h) ∙ fails_before_first p (take n xs) j d l

  -- Where the default fails, the first of n places is sought among those of the list alone.
  pub first_is_position : first (λ i. p (get_or xs i d)) n ≡ position p (take n xs)
  first_is_position = finds_first (λ i. p (get_or xs i d)) n (position p (take n xs)) (elim (cases_lt (position_or_len p (take n xs)) (length (take n xs))) [
    | inl l ↦
        let near : position_or_len p (take n xs) < n = omega (arith, shorter) in
        rw (cond-true (ltb (position_or_len p (take n xs)) (length (take n xs))) (Some (position_or_len p (take n xs))) None (lt-ltb _ _ l))
        (near, sym (same _ near) ∙ passes_at_first p (take n xs) d l, λ j h. fails_before j (omega arith) h)
    | inr l ↦ rw (cond-false (ltb (position_or_len p (take n xs)) (length (take n xs))) (Some (position_or_len p (take n xs))) None (le-ltb _ _ l))
        (λ j h. elim (cases_lt j (length xs)) [
          | inl k ↦ fails_before j h (omega (arith, shorter))
          | inr k ↦ ap p (get_or_past xs j d k) ∙ fails
        ])
  ])
