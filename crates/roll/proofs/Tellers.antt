-- Counting by a told number, element by element. The library has the laws of counting over lists put together, one element
-- further on, and at most as many as there are elements: sum_by-append, sum_by_push, sum_by_more and count_by-le-length.
use Rattle.std.proofs.Common.{◌≡◌, ℕ, ◌+◌, cond, eqb, List, [], ◌∷◌, refl}
use Rattle.std.proofs.lemmas.List.Sums.{sum_by-cons}
use Rattle.roll.specs.Tellers.{tellers}

module _ {T : Type 0} (told : T → ℕ) (n : ℕ) where
  pub none_of_nothing_tells : tellers told [] n ≡ 0
  none_of_nothing_tells = refl

  pub first_tells_or_not : (x : T) (xs : List T) → tellers told (x ∷ xs) n ≡ cond (eqb (told x) n) 1 0 + tellers told xs n
  first_tells_or_not x xs = sum_by-cons (λ y. cond (eqb (told y) n) 1 0) x xs
