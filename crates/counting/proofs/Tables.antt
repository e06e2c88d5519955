-- The laws of sums over a square table.
use Rattle.std.proofs.Common.{◌≡◌, ℕ, ◌+◌, ◌*◌, ◌<◌, ◌≤◌, ◌&&◌, eqb, refl, ◌∙◌, ap, arith}
use Rattle.std.proofs.lemmas.Bool.{eq-eqb, ne_eqb, cond-true, cond-false, and_left, and_right, and_from}
use Rattle.counting.specs.Sums.{sum}
use Rattle.counting.specs.Tables.{row, total, before, upd2}
use Rattle.counting.proofs.Sums.{sum_ext, sum_change, sum_at, sum_none, sum_most, sum_zero, sum_add, sum_more}

pub upd2_same : {A : Type 0} (f : ℕ → ℕ → A) (i j : ℕ) (v : A) → upd2 f i j v i j ≡ v
upd2_same f i j v = cond-true (eqb i i && eqb j j) v (f i j) (and_from (eqb i i) (eqb j j) (eq-eqb i i refl) (eq-eqb j j refl))

pub upd2_row : {A : Type 0} (f : ℕ → ℕ → A) (i j : ℕ) (v : A) (a b : ℕ) → (a ≡ i → ⊥) → upd2 f i j v a b ≡ f a b
upd2_row f i j v a b ne = cond-false (eqb a i && eqb b j) v (f a b) (and_left (eqb a i) (eqb b j) (ne_eqb a i ne))

pub upd2_column : {A : Type 0} (f : ℕ → ℕ → A) (i j : ℕ) (v : A) (a b : ℕ) → (b ≡ j → ⊥) → upd2 f i j v a b ≡ f a b
upd2_column f i j v a b ne = cond-false (eqb a i && eqb b j) v (f a b) (and_right (eqb a i) (eqb b j) (ne_eqb b j ne))

pub total_ext : (f g : ℕ → ℕ → ℕ) (n : ℕ) → ((a b : ℕ) → a < n → b < n → f a b ≡ g a b) → total f n ≡ total g n
total_ext f g n e = sum_ext (row f n) (row g n) n (λ a h. sum_ext (f a) (g a) n (λ b k. e a b h k))

pub total_zero : (f : ℕ → ℕ → ℕ) (n : ℕ) → ((a b : ℕ) → a < n → b < n → f a b ≡ 0) → total f n ≡ 0
total_zero f n e = sum_zero (row f n) n (λ a h. sum_zero (f a) n (λ b k. e a b h k))

pub total_add : (f g : ℕ → ℕ → ℕ) (n : ℕ) → total (λ a b. f a b + g a b) n ≡ total f n + total g n
total_add f g n =
    sum_ext (row (λ a b. f a b + g a b) n) (λ a. row f n a + row g n a) n (λ a h. sum_add (f a) (g a) n) ∙ sum_add (row f n) (row g n) n

module _ (f g : ℕ → ℕ → ℕ) (n i : ℕ) (within : i < n) where
  -- Two tables that differ at most in row i.
  pub total_row_change : ((a b : ℕ) → a < n → b < n → (a ≡ i → ⊥) → g a b ≡ f a b) → total g n + row f n i ≡ total f n + row g n i
  total_row_change e =
      sum_change (row f n) (row g n) n i within (λ a h ne. sum_ext (g a) (f a) n (λ b k. e a b h k ne))

  -- Two tables that differ at most at (i, j).
  pub total_change : (j : ℕ) → j < n → ((a b : ℕ) → a < n → b < n → (a ≡ i → ⊥) → g a b ≡ f a b) → ((b : ℕ) → b < n → (b ≡ j → ⊥) → g i b ≡ f i b) → total g n + f i j ≡ total f n + g i j
  total_change j h rows columns =
      let outer : total g n + row f n i ≡ total f n + row g n i = total_row_change rows in
      let inner : row g n i + f i j ≡ row f n i + g i j = sum_change (f i) (g i) n j h columns in
      omega arith

-- A cell and all before it are within the total.
pub before_at : (f : ℕ → ℕ → ℕ) (n i j : ℕ) → i < n → j < n → before f n i j + f i j ≤ total f n
before_at f n i j hi hj =
    omega (arith, sum_at (row f n) n i hi, sum_at (f i) n j hj)

-- A total of nothing has nothing in its cells.
pub total_none : (f : ℕ → ℕ → ℕ) (n i j : ℕ) → total f n ≡ 0 → i < n → j < n → f i j ≡ 0
total_none f n i j e hi hj =
    sum_none (f i) n j (sum_none (row f n) n i e hi) hj

-- Where each cell counts for at most 1, the total is at most the number of cells.
pub total_most : (f : ℕ → ℕ → ℕ) (n : ℕ) → ((i j : ℕ) → f i j ≤ 1) → total f n ≤ n * n
total_most f n most =
    sum_most (row f n) n n (λ i h. omega (arith, sum_most (f i) 1 n (λ j k. most i j)))

-- At the end of a row, what was passed is what comes before the next row.
pub before_next_row : (f : ℕ → ℕ → ℕ) (n i j : ℕ) → j ≡ n → before f n (i + 1) 0 ≡ before f n i j
before_next_row f n i j end =
    omega (arith, sum_more (row f n) i, ap (sum (f i)) end)
