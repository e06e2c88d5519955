-- What arrays, and tables as arrays of rows, read as after a write.
use Rattle.std.proofs.Common.{◌≡◌, ℕ, zero, suc, ◌<◌, Bool, true, false, cond, eqb, List, [], length, get_or, set, replicate, sym, refl, ap, ◌∙◌, inl, inr, arith}
use mathlib.Core.Path.{fun_ext}
use Rattle.std.proofs.lemmas.List.{get_or-set_same, get_or-set_other, length-replicate, get_or_past, set_past}
use Rattle.std.proofs.lemmas.Bool.{cases_eq, cases_lt}
use Rattle.counting.specs.Sums.{upd}
use Rattle.counting.specs.Tables.{upd2}
use Rattle.counting.proofs.Sums.{upd_same, upd_other}
use Rattle.counting.proofs.Tables.{upd2_same, upd2_row, upd2_column}

module _ {A : Type 0} where
  -- Read at its own element, an array of one element repeated gives it everywhere.
  pub read_flat : (n : ℕ) (a : A) (i : ℕ) → get_or (replicate n a) i a ≡ a
  read_flat zero a i = refl
  read_flat (suc n) a zero = refl
  read_flat (suc n) a (suc i) = read_flat n a i

  pub read_flat2 : (n m : ℕ) (a : A) (i j : ℕ) → get_or (get_or (replicate n (replicate m a)) i []) j a ≡ a
  read_flat2 zero m a i j = refl
  read_flat2 (suc n) m a zero j = read_flat m a j
  read_flat2 (suc n) m a (suc i) j = read_flat2 n m a i j

  pub read_set : (xs : List A) (i : ℕ) (v d : A) → i < length xs → (k : ℕ) → get_or (set xs i v) k d ≡ upd (λ j. get_or xs j d) i v k
  read_set xs i v d h k = elim (cases_eq k i) [
    | inl e ↦ rw e (get_or-set_same xs i v d h ∙ sym (upd_same (λ j. get_or xs j d) i v))
    | inr ne ↦ get_or-set_other xs i k v d ne ∙ sym (upd_other (λ j. get_or xs j d) i v k ne)
  ]

  -- The default can be written anywhere.
  pub read_reset : (xs : List A) (i : ℕ) (d : A) (k : ℕ) → get_or (set xs i d) k d ≡ upd (λ j. get_or xs j d) i d k
  read_reset xs i d k = elim (cases_lt i (length xs)) [
    | inl h ↦ read_set xs i d d h k
    | inr h ↦ ap (λ ys. get_or ys k d) (set_past xs i d h) ∙ sym (elim (cases_eq k i) [
      | inl e ↦ rw e (upd_same (λ j. get_or xs j d) i d ∙ sym (get_or_past xs i d h))
      | inr ne ↦ upd_other (λ j. get_or xs j d) i d k ne
    ])
  ]

  pub read_set2 : (t : List (List A)) (i j : ℕ) (v d : A) → i < length t → j < length (get_or t i []) → (a b : ℕ) → get_or (get_or (set t i (set (get_or t i []) j v)) a []) b d ≡ upd2 (λ x y. get_or (get_or t x []) y d) i j v a b
  read_set2 t i j v d h k a b = elim (cases_eq a i) [
    | inl e ↦ rw (e, get_or-set_same t i (set (get_or t i []) j v) [] h) (elim (cases_eq b j) [
      | inl q ↦ rw q (get_or-set_same (get_or t i []) j v d k ∙ sym (upd2_same (λ x y. get_or (get_or t x []) y d) i j v))
      | inr ne ↦ get_or-set_other (get_or t i []) j b v d ne ∙ sym (upd2_column (λ x y. get_or (get_or t x []) y d) i j v i b ne)
    ])
    | inr ne ↦ ap (λ xs. get_or xs b d) (get_or-set_other t i a (set (get_or t i []) j v) [] ne) ∙ sym (upd2_row (λ x y. get_or (get_or t x []) y d) i j v a b ne)
  ]

  pub read_set_flat : (n : ℕ) (a v : A) (i : ℕ) → i < n → (k : ℕ) → get_or (set (replicate n a) i v) k a ≡ upd (λ j. a) i v k
  read_set_flat n a v i h k =
      let len : length (replicate n a) ≡ n = length-replicate n a in
      read_set (replicate n a) i v a (omega arith) k ∙ ap (λ f. upd f i v k) (fun_ext (read_flat n a))

  -- A write leaves the rows as long as they were.
  pub wide_set : (t : List (List A)) (i : ℕ) (xs : List A) (n : ℕ) → i < length t → length xs ≡ n → (a : ℕ) → length (get_or t a []) ≡ n → length (get_or (set t i xs) a []) ≡ n
  wide_set t i xs n h e a w = elim (cases_eq a i) [
    | inl q ↦ rw (q, get_or-set_same t i xs [] h) e
    | inr ne ↦ rw (get_or-set_other t i a xs [] ne) w
  ]

  pub wide_flat : (n m : ℕ) (a : A) (i : ℕ) → i < n → length (get_or (replicate n (replicate m a)) i []) ≡ m
  wide_flat zero m a i h = absurd (omega arith)
  wide_flat (suc n) m a zero h = length-replicate m a
  wide_flat (suc n) m a (suc i) h = wide_flat n m a i (omega arith)

module _ {A : Type 0} where
  cond_read : (here : Bool) (xs ys : List A) (k : ℕ) (d : A) → get_or (cond here xs ys) k d ≡ cond here (get_or xs k d) (get_or ys k d)
  cond_read true xs ys k d = refl
  cond_read false xs ys k d = refl

  -- A whole row is written.
  pub read_row : (t : List (List A)) (i : ℕ) (xs : List A) (d : A) → i < length t → (a b : ℕ) → get_or (get_or (set t i xs) a []) b d ≡ cond (eqb a i) (get_or xs b d) (get_or (get_or t a []) b d)
  read_row t i xs d h a b =
      ap (λ ys. get_or ys b d) (read_set t i xs [] h a) ∙ cond_read (eqb a i) xs (get_or t a []) b d
