-- The stages after a free's answers, row by row, and after the freed site's own request is over.
use Rattle.std.proofs.Common.{◌≡◌, ℕ, ◌+◌, ◌<◌, ◌≤◌, cond, ◌&&◌, eqb, List, [], length, get_or, set, ap, ◌∙◌, inl, inr, arith}
use Rattle.std.proofs.lemmas.Bool.{cases_eq, cases_lt, lt-ltb, le-ltb}
use Rattle.std.proofs.lemmas.Bool.Decides.{nat_tests}
use Rattle.counting.specs.Tables.{upd2}
use Rattle.counting.proofs.Arrays.{read_set2}
use Rattle.ricart_rules.specs.State.{State, is_deferred}
use Rattle.ricart_rules.specs.declared.Stage.{Stage}
use Rattle.ricart_rules.specs.declared.Stage.TheVariants.{Unasked, Replied}
use Rattle.ricart_agrawala.specs.Answered.{answered_below}

-- The stage, or the REPLY if it was deferred.
abbrev given : Stage → Stage
given x = cond (is_deferred x) Replied x

-- The stages as rows of them are stored.
abbrev stages_of : List (List Stage) → ℕ → ℕ → Stage
stages_of rows a b = get_or (get_or rows a []) b Unasked

-- The stages when site i has answered those below n.
abbrev answered : State → (i n a b : ℕ) → Stage
answered s i n = (answered_below s i n).stage

-- One more site is answered.
answered_more : (s : State) (i n a b : ℕ) → upd2 (answered s i n) n i (given (answered s i n n i)) a b ≡ answered s i (n + 1) a b
answered_more s i n a b = elim (cases_eq a n) [
  | inl e ↦ elim (cases_eq b i) [
    | inl q ↦ grind (arith, nat_tests)
    | inr ne ↦ grind (arith, nat_tests)
  ]
  | inr ne ↦ grind (arith, nat_tests)
]

module _ (s : State) (rows : List (List Stage)) (i n : ℕ) (x : Stage) (row : n < length rows) (site : i < length (get_or rows n [])) where
  pub row_answered : ((a b : ℕ) → stages_of rows a b ≡ answered s i n a b) → x ≡ given (stages_of rows n i) → (a b : ℕ) → stages_of (set rows n (set (get_or rows n []) i x)) a b ≡ answered s i (n + 1) a b
  row_answered so_far is_given a b =
      let e : stages_of rows ≡ answered s i n = λ k. λ a b. so_far a b k in
      read_set2 rows n i x Unasked row site a b
      ∙ ap (λ v. upd2 (stages_of rows) n i v a b) is_given
      ∙ ap (λ (t : ℕ → ℕ → Stage). upd2 t n i (given (t n i)) a b) e
      ∙ answered_more s i n a b

-- Past the last row nobody is deferred, so that all are answered.
pub answered_all : (s : State) (i a b : ℕ) → (16 ≤ a → answered s i 16 a b ≡ Unasked) → answered s i 16 a b ≡ cond (eqb b i && is_deferred (s.stage a b)) Replied (s.stage a b)
answered_all s i a b past = elim (cases_lt a 16) [
  | inl h ↦ ap (λ near. cond (near && (eqb b i && is_deferred (s.stage a b))) Replied (s.stage a b)) (lt-ltb a 16 h)
  | inr h ↦
      let far = le-ltb a 16 h in
      let none = past h in
      grind (arith, nat_tests)
]
