-- The laws of sums, of a function changed at one number, and of how often a number stands in a list.
use Rattle.std.proofs.Common.{◌≡◌, ℕ, zero, suc, ◌+◌, ◌*◌, ◌<◌, ◌≤◌, Bool, true, false, eqb, List, [], ◌∷◌, ◌++◌, length, sym, refl, ap, ap₂, inl, inr, add-one, arith}
use mir.Val.{bool_byte}
use Rattle.std.proofs.lemmas.Bool.{eq-eqb, ne_eqb, cond-true, cond-false, cases_eq}
use Rattle.std.proofs.lemmas.Bool.Decides.{nat_tests}
use Rattle.std.specs.List.{range_with_len}
use Rattle.counting.specs.Sums.{sum, one_if, upd, times}

pub upd_same : {A : Type 0} (f : ℕ → A) (i : ℕ) (v : A) → upd f i v i ≡ v
upd_same f i v = cond-true (eqb i i) v (f i) (eq-eqb i i refl)

pub upd_other : {A : Type 0} (f : ℕ → A) (i : ℕ) (v : A) (j : ℕ) → (j ≡ i → ⊥) → upd f i v j ≡ f j
upd_other f i v j ne = cond-false (eqb j i) v (f j) (ne_eqb j i ne)

pub sum_more : (f : ℕ → ℕ) (n : ℕ) → sum f (n + 1) ≡ sum f n + f n
sum_more f n = rw add-one refl

pub sum_ext : (f g : ℕ → ℕ) (n : ℕ) → ((i : ℕ) → i < n → f i ≡ g i) → sum f n ≡ sum g n
sum_ext f g zero e = refl
sum_ext f g (suc n) e = ap₂ ◌+◌ (sum_ext f g n (λ i h. e i (omega arith))) (e n (omega arith))

-- Two functions that differ at most at i.
pub sum_change : (f g : ℕ → ℕ) (n i : ℕ) → i < n → ((j : ℕ) → j < n → (j ≡ i → ⊥) → g j ≡ f j) → sum g n + f i ≡ sum f n + g i
sum_change f g zero i h e = omega arith
sum_change f g (suc n) i h e = elim (cases_eq n i) [
  | inl q ↦
      let p : sum g n ≡ sum f n = sum_ext g f n (λ j b. e j (omega arith) (λ r. omega arith)) in
      let u : g n ≡ g i = ap g q in
      let w : f n ≡ f i = ap f q in
      omega arith
  | inr ne ↦
      let p : sum g n + f i ≡ sum f n + g i = sum_change f g n i (omega arith) (λ j b. e j (omega arith)) in
      let w : g n ≡ f n = e n (omega arith) ne in
      omega arith
]

pub sum_le : (f g : ℕ → ℕ) (n : ℕ) → ((i : ℕ) → i < n → f i ≤ g i) → sum f n ≤ sum g n
sum_le f g zero e = omega arith
sum_le f g (suc n) e =
    let p : sum f n ≤ sum g n = sum_le f g n (λ i h. e i (omega arith)) in
    let q : f n ≤ g n = e n (omega arith) in
    omega arith

pub sum_at : (f : ℕ → ℕ) (n i : ℕ) → i < n → sum f i + f i ≤ sum f n
sum_at f zero i h = omega arith
sum_at f (suc n) i h = elim (cases_eq n i) [
  | inl q ↦
      let p : sum f n + f n ≡ sum f i + f i = ap (λ (k : ℕ). sum f k + f k) q in
      omega arith
  | inr ne ↦
      let p : sum f i + f i ≤ sum f n = sum_at f n i (omega arith) in
      omega arith
]

-- A sum of nothing has nothing in it.
pub sum_none : (f : ℕ → ℕ) (n i : ℕ) → sum f n ≡ 0 → i < n → f i ≡ 0
sum_none f n i e h = omega (arith, sum_at f n i h)

pub sum_zero : (f : ℕ → ℕ) (n : ℕ) → ((i : ℕ) → i < n → f i ≡ 0) → sum f n ≡ 0
sum_zero f zero e = refl
sum_zero f (suc n) e = omega (arith, sum_zero f n (λ i h. e i (omega arith)), e n (omega arith))

pub sum_add : (f g : ℕ → ℕ) (n : ℕ) → sum (λ i. f i + g i) n ≡ sum f n + sum g n
sum_add f g zero = refl
sum_add f g (suc n) = omega (arith, sum_add f g n)

pub sum_ones : (n : ℕ) → sum (λ i. 1) n ≡ n
sum_ones zero = refl
sum_ones (suc n) = omega (arith, sum_ones n)

-- Where each number counts for at most 1 and i for nothing, the sum is less than n.
pub sum_but_one : (f : ℕ → ℕ) (n i : ℕ) → i < n → ((j : ℕ) → j < n → f j ≤ 1) → f i ≡ 0 → sum f n + 1 ≤ n
sum_but_one f n i h most none =
    let filled : sum (upd f i 1) n + f i ≡ sum f n + upd f i 1 i = sum_change f (upd f i 1) n i h (λ j b. upd_other f i 1 j) in
    let small : sum (upd f i 1) n ≤ sum (λ j. 1) n = sum_le (upd f i 1) (λ j. 1) n (λ j b. grind (arith, nat_tests, most)) in
    omega (arith, upd_same f i 1, sum_ones n)

-- Where each number counts for at most c, the sum is at most n times c.
pub sum_most : (f : ℕ → ℕ) (c n : ℕ) → ((i : ℕ) → i < n → f i ≤ c) → sum f n ≤ n * c
sum_most f c zero e = omega arith
sum_most f c (suc n) e = omega (arith, sum_most f c n (λ i h. e i (omega arith)), e n (omega arith))

pub one_if_most : (b : Bool) → one_if b ≤ 1
one_if_most true = omega arith
one_if_most false = omega arith

-- A flag that is cast to a number.
pub bit_is : (b : Bool) → bool_byte b ≡ one_if b
bit_is true = refl
bit_is false = refl

-- One number below n is counted once.
pub count_one : (n x : ℕ) → x < n → sum (λ j. one_if (eqb x j)) n ≡ 1
count_one n x h =
    let z : sum (λ j. 0) n ≡ 0 = sum_zero (λ j. 0) n (λ i b. refl) in
    let here : one_if (eqb x x) ≡ 1 = cond-true (eqb x x) 1 0 (eq-eqb x x refl) in
    let c : sum (λ j. one_if (eqb x j)) n + 0 ≡ sum (λ j. 0) n + one_if (eqb x x) = sum_change (λ j. 0) (λ j. one_if (eqb x j)) n x h (λ j b ne. cond-false (eqb x j) 1 0 (ne_eqb x j (λ e. ne (sym e)))) in
    omega arith

pub times_append : (xs ys : List ℕ) (x : ℕ) → times (xs ++ ys) x ≡ times xs x + times ys x
times_append [] ys x = omega arith
times_append (y ∷ xs) ys x = omega (arith, times_append xs ys x)

-- A list of numbers below n is as long as its numbers are frequent.
pub length_times : (xs : List ℕ) (n : ℕ) → ((x : ℕ) → 0 < times xs x → x < n) → length xs ≡ sum (times xs) n
length_times [] n h = sym (sum_zero (times []) n (λ i b. refl))
length_times (y ∷ xs) n h =
    let here : one_if (eqb y y) ≡ 1 = cond-true (eqb y y) 1 0 (eq-eqb y y refl) in
    let small : y < n = h y (omega arith) in
    let rest : length xs ≡ sum (times xs) n = length_times xs n (λ x p. h x (omega arith)) in
    let added : sum (times (y ∷ xs)) n ≡ sum (λ j. one_if (eqb y j)) n + sum (times xs) n = sum_add (λ j. one_if (eqb y j)) (times xs) n in
    omega (arith, count_one n y small)

-- So n places are enough for numbers below n without repeats.
pub no_repeats_fit : (xs : List ℕ) (n : ℕ) → ((x : ℕ) → 0 < times xs x → x < n) → ((x : ℕ) → times xs x ≤ 1) → length xs ≤ n
no_repeats_fit xs n h once =
    let e : length xs ≡ sum (times xs) n = length_times xs n h in
    let b : sum (times xs) n ≤ sum (λ i. 1) n = sum_le (times xs) (λ i. 1) n (λ i p. once i) in
    omega (arith, sum_ones n)

-- One more number of a range.
pub range_more : (a n e : ℕ) → a + n ≡ e → range_with_len a (suc n) ≡ range_with_len a n ++ (e ∷ [])
range_more a zero e q = ap (λ x. x ∷ []) (omega (arith, q))
range_more a (suc n) e q = ap (λ xs. a ∷ xs) (range_more (a + 1) n e (omega (arith, q)))
