-- What a tie answers, from what its parts answer, sound or not.
use Rattle.std.proofs.Common.{◌≡◌, ℕ, ◌+◌, ◌-◌, ◌*◌, ◌<◌, ◌≤◌, min, max, Bool, true, false, cond, ◌&&◌, ltb, ◌⊎◌, Some, None, Ok, Option, refl, ap, ◌∙◌, inl, inr, arith}
use Rattle.std.specs.Option.{option_or}
use Rattle.std.proofs.lemmas.Bool.{cases_eq, cases_lt, cond-true, cond-false, cond_both, and_parts, and_cases, ltb-true, ltb-false, lt-ltb, le-ltb}
use Rattle.counting.specs.Sums.{one_if}
use Rattle.manager.specs.Answers.{answer, status_shown, called_shown, holder_shown, toll_shown}
use Rattle.manager.specs.Kinds.{Kind}
use Rattle.manager.specs.Meaning.{Meaning, limit, is_holding}
use Rattle.manager.specs.declared.refusal.Refusal.{Refusal}
use Rattle.gateway.specs.Automaton.{last}
use Rattle.tie_rules.specs.Reading.{border, left_side, right_side, meaning_of}
use Rattle.tie_rules.specs.Rules.{before_left_move, before_right_move}
use Rattle.tie_rules.specs.Sides.{due}
use Rattle.tie_rules.specs.State.{Tie}
use Rattle.manager.proofs.Accepted.{site_accepted}
use Rattle.manager.proofs.First.{Finds, first_finds, finds_first}

module _ (m : Meaning) (i : ℕ) (l : i < m.sites) where
  -- A question that names a site is answered.
  pub status_answered : status_shown m i ≡ Ok (m.status i)
  status_answered = ap (λ (r : Option Refusal). answer r (m.status i)) (site_accepted m i l)

  pub called_answered : called_shown m i ≡ Ok (m.called i)
  called_answered = ap (λ (r : Option Refusal). answer r (m.called i)) (site_accepted m i l)

-- The holder that an island shows, as the tie numbers it, unless it is the gateway or not reachable.
abbrev pub own_holder : (gateway offset : ℕ) → Option ℕ → Option ℕ
own_holder gateway offset None = None
own_holder gateway offset (Some i) = cond (ltb i gateway && ltb (i + offset) 64) (Some (i + offset)) None

-- What own_holder finds: the first of the tie's own sites that passes the test, or none.
abbrev FindsOwn : (ℕ → Bool) → (gateway offset : ℕ) → Option ℕ → Type 0
FindsOwn test n off (Some y) = (i : ℕ) × (i < n) × (y ≡ i + off) × (y < 64) × (test i ≡ true) × ((j : ℕ) → j < i → test j ≡ false)
FindsOwn test n off None = (j : ℕ) → j < n → j + off < 64 → test j ≡ false

own_finds : (test : ℕ → Bool) (n off sites : ℕ) → n ≤ sites → (p : Option ℕ) → Finds test sites p → FindsOwn test n off (own_holder n off p)
own_finds test n off sites most None none = λ j l k. none j (omega arith)
own_finds test n off sites most (Some i) (l, passes, before) =
    cond_both (ltb i n && ltb (i + off) 64) (Some (i + off)) None (FindsOwn test n off) (λ e.
    let both = and_parts (ltb i n) (ltb (i + off) 64) e in
    (i, ltb-true i n both.0, refl, ltb-true (i + off) 64 both.1, passes, before)) (λ e j k far. elim (cases_lt j i) [
      | inl h ↦ before j h
      | inr h ↦ elim (and_cases (ltb i n) (ltb (i + off) 64) e) [
        | inl q ↦ absurd (omega (arith, ltb-false i n q))
        | inr q ↦ absurd (omega (arith, ltb-false (i + off) 64 q))
      ]
    ])

-- A test that is one below n and another from n on.
both_find : (test near far : ℕ → Bool) (n k : ℕ) → ((x : ℕ) → x < n → test x ≡ near x) → ((x : ℕ) → n ≤ x → test x ≡ far (x - n)) → (p q : Option ℕ) →
    FindsOwn near n 0 p → FindsOwn far k n q → Finds test (min 64 (n + k)) (option_or p q)
both_find test near far n k below above (Some y) q (i, l, is, small, passes, before) f =
    (omega arith, below y (omega arith) ∙ ap near (omega arith) ∙ passes, λ j h. below j (omega arith) ∙ before j (omega arith))
both_find test near far n k below above None (Some y) none (i, l, is, small, passes, before) = (
  omega arith,
  above y (omega arith) ∙ ap far (omega arith) ∙ passes,
  λ j h. elim (cases_lt j n) [
    | inl c ↦ below j c ∙ none j c (omega arith)
    | inr c ↦ above j c ∙ before (j - n) (omega arith)
  ],
)
both_find test near far n k below above None None none none_far = λ j h. elim (cases_lt j n) [
  | inl c ↦ below j c ∙ none j c (omega arith)
  | inr c ↦ above j c ∙ none_far (j - n) (omega arith) (omega arith)
]

-- From n on there is a thing if x, then one if y.
one_of_two : (n k : ℕ) (x y : Bool) → n ≤ k → k < n + one_if x + one_if y → ((k ≡ n) × (x ≡ true)) ⊎ ((k ≡ n + one_if x) × (y ≡ true))
one_of_two n k true true h l = elim (cases_eq k n) [ inl e ↦ inl (e, refl) | inr ne ↦ inr (omega arith, refl) ]
one_of_two n k true false h l = inl (omega arith, refl)
one_of_two n k false true h l = inr (omega arith, refl)
one_of_two n k false false h l = absurd (omega arith)

module _ {L R O : Type 0} (kl : Kind L) (kr : Kind R) (ko : Kind O) (t : Tie L R O) where
  abbrev whole : Meaning
  whole = meaning_of kl kr ko t

  abbrev left : Meaning
  left = kl.meaning t.left

  abbrev right : Meaning
  right = kr.meaning t.right

  abbrev outer : Meaning
  outer = ko.meaning t.outer

  -- A site below the border is the left island's, any other the right's, by its number past the border.
  pub status_left : (x : ℕ) → x < border kl kr ko t → whole.status x ≡ left.status x
  status_left x h = cond-true (ltb x (border kl kr ko t)) (left.status x) (right.status (x - border kl kr ko t)) (lt-ltb x (border kl kr ko t) h)

  pub status_right : (x : ℕ) → border kl kr ko t ≤ x → whole.status x ≡ right.status (x - border kl kr ko t)
  status_right x h = cond-false (ltb x (border kl kr ko t)) (left.status x) (right.status (x - border kl kr ko t)) (le-ltb x (border kl kr ko t) h)

  pub called_left : (x : ℕ) → x < border kl kr ko t → whole.called x ≡ left.called x
  called_left x h = cond-true (ltb x (border kl kr ko t)) (left.called x) (right.called (x - border kl kr ko t)) (lt-ltb x (border kl kr ko t) h)

  pub called_right : (x : ℕ) → border kl kr ko t ≤ x → whole.called x ≡ right.called (x - border kl kr ko t)
  called_right x h = cond-false (ltb x (border kl kr ko t)) (left.called x) (right.called (x - border kl kr ko t)) (le-ltb x (border kl kr ko t) h)

  -- The left island's holder, if it is not the gateway, or else the right's.
  pub holder_from_parts :
      holder_shown whole ≡ option_or (own_holder (border kl kr ko t) 0 (holder_shown left)) (own_holder (last right) (border kl kr ko t) (holder_shown right))
  holder_from_parts =
      let holds : ℕ → Bool = λ x. is_holding (whole.status x) in
      let near : ℕ → Bool = λ i. is_holding (left.status i) in
      let far : ℕ → Bool = λ i. is_holding (right.status i) in
      let near_holder = own_holder (border kl kr ko t) 0 (holder_shown left) in
      let far_holder = own_holder (last right) (border kl kr ko t) (holder_shown right) in
      let near_finds = own_finds near (border kl kr ko t) 0 left.sites (omega arith) (holder_shown left) (first_finds near left.sites) in
      let far_finds = own_finds far (last right) (border kl kr ko t) right.sites (omega arith) (holder_shown right) (first_finds far right.sites) in
      finds_first holds whole.sites (option_or near_holder far_holder)
      (both_find holds near far (border kl kr ko t) (last right) (λ x h. ap is_holding (status_left x h)) (λ x h. ap is_holding (status_right x h))
      near_holder far_holder near_finds far_finds)

  -- Computed from tolls that are cut at the limit, the tie's toll is the same once it is cut.
  pub toll_from_parts : toll_shown whole ≡ min (9 * (max (toll_shown left) (max (toll_shown right) (toll_shown outer)) + 1)) limit
  toll_from_parts = omega arith

  -- A thing under way that is none of the parts' is the left gateway's due move or the right's.
  pub thing_due : (k : ℕ) → k < whole.underway → before_left_move kl kr ko t ≤ k → ((k ≡ before_left_move kl kr ko t) × (due (left_side kl kr ko t) outer ≡ true)) ⊎ ((k ≡ before_right_move kl kr ko t) × (due (right_side kl kr ko t) outer ≡ true))
  thing_due k l h =
      one_of_two (before_left_move kl kr ko t) k (due (left_side kl kr ko t) outer) (due (right_side kl kr ko t) outer) h (omega arith)
