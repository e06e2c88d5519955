-- What a freeing site's search through the others leaves in the queue, and that its order visits each of them once.
use Rattle.std.proofs.Common.{◌≡◌, ℕ, zero, suc, ◌+◌, ◌-◌, ◌<◌, ◌≤◌, max, true, not, ◌&&◌, eqb, ltb, leb, ◌⊎◌, List, [], ◌∷◌, ◌++◌, length, refl, ap, ◌∙◌, inl, inr, add-one, arith}
use Rattle.std.proofs.lemmas.List.{length_push}
use Rattle.std.proofs.lemmas.Bool.{and_parts, cases_lt, ltb-true}
use Rattle.std.proofs.lemmas.Bool.Decides.{nat_tests}
use Rattle.std.specs.List.{range_with_len}
use Rattle.counting.specs.Sums.{times, one_if}
use Rattle.counting.proofs.Sums.{times_append, no_repeats_fit, range_more}
use Rattle.suzuki_rules.specs.Rules.{order, enqueued, searched}
use Rattle.suzuki_rules.specs.State.{State, wants, queued}

-- The list has each site below n other than i once, and nothing else.
abbrev pub Visits : List ℕ → (n i : ℕ) → Type 0
Visits js n i = (j : ℕ) → times js j ≡ one_if (ltb j n && not (eqb j i))

pub times_range : (a k x : ℕ) → times (range_with_len a k) x ≡ one_if (leb a x && ltb x (a + k))
times_range a zero x = grind (arith, nat_tests)
times_range a (suc k) x = grind (arith, nat_tests, times_range (a + 1) k x)

pub range_site : (a k x : ℕ) → 0 < times (range_with_len a k) x → x < a + k
range_site a k x h = grind (arith, nat_tests, times_range a k x)

pub visits_site : (js : List ℕ) (n i : ℕ) → Visits js n i → (x : ℕ) → 0 < times js x → x < n
visits_site js n i visits x h = grind (arith, nat_tests, visits x)

pub order_visits : (i n : ℕ) → i < n → Visits (order i n) n i
order_visits i n h j =
    grind (arith, nat_tests, times_append (range_with_len (i + 1) (n - (i + 1))) (range_with_len 0 i) j, times_range (i + 1) (n - (i + 1)) j, times_range 0 i j)

module _ (s : State) (i : ℕ) where
  times_enqueued : (q : List ℕ) (j x : ℕ) → times (enqueued s i q j) x ≡ max (times q x) (one_if (wants s i x && eqb j x))
  times_enqueued q j x = grind (arith, nat_tests, times_append q (j ∷ []) x)

  -- A site is queued that was so before, or that is visited and wanted.
  pub times_searched : (q js : List ℕ) (x : ℕ) → times (searched s i q js) x ≡ max (times q x) (one_if (wants s i x && queued js x))
  times_searched q [] x = grind (arith, nat_tests)
  times_searched q (j ∷ js) x =
      grind (arith, nat_tests, times_searched (enqueued s i q j) js x, times_enqueued q j x)

  pub searched_append : (q xs ys : List ℕ) → searched s i q (xs ++ ys) ≡ searched s i (searched s i q xs) ys
  searched_append q [] ys = refl
  searched_append q (x ∷ xs) ys = searched_append (enqueued s i q x) xs ys

  -- One more site of a range.
  pub searched_more : (q : List ℕ) (a k : ℕ) → searched s i q (range_with_len a (k + 1)) ≡ enqueued s i (searched s i q (range_with_len a k)) (a + k)
  searched_more q a k =
      ap (λ n. searched s i q (range_with_len a n)) (add-one k)
      ∙ ap (searched s i q) (range_more a k (a + k) refl)
      ∙ searched_append q (range_with_len a k) ((a + k) ∷ [])

  pub searched_from : (q js : List ℕ) (x : ℕ) → 0 < times (searched s i q js) x → (0 < times q x) ⊎ ((wants s i x ≡ true) × (0 < times js x))
  searched_from q js x h = elim (cases_lt 0 (times q x)) [
    | inl p ↦ inl p
    | inr p ↦
        let both : (wants s i x && queued js x) ≡ true = grind (arith, times_searched q js x) in
        inr ((and_parts (wants s i x) (queued js x) both).0, ltb-true 0 (times js x) (and_parts (wants s i x) (queued js x) both).1)
  ]

  pub searched_once : (q js : List ℕ) → ((x : ℕ) → times q x ≤ 1) → (x : ℕ) → times (searched s i q js) x ≤ 1
  searched_once q js once x = grind (arith, times_searched q js x, once x)

  pub searched_site : (n : ℕ) (q js : List ℕ) → ((x : ℕ) → 0 < times q x → x < n) → ((x : ℕ) → 0 < times js x → x < n) → (x : ℕ) → 0 < times (searched s i q js) x → x < n
  searched_site n q js old new x h = elim (searched_from q js x h) [ inl p ↦ old x p | inr p ↦ new x p.1 ]

-- A queue of sites below n that lacks one of them has room for it in n places.
pub room_for : (q : List ℕ) (n j : ℕ) → ((x : ℕ) → 0 < times q x → x < n) → ((x : ℕ) → times q x ≤ 1) → times q j ≡ 0 → j < n → length q < n
room_for q n j site once lacks h =
    let fit : length (q ++ (j ∷ [])) ≤ n = no_repeats_fit (q ++ (j ∷ [])) n (λ x p. grind (arith, nat_tests, times_append q (j ∷ []) x, site x)) (λ x. grind (arith, nat_tests, times_append q (j ∷ []) x, once x)) in
    omega (arith, length_push q j)
