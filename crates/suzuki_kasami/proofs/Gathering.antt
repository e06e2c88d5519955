-- A free's search for the sites that wait: 16 places are enough for it.
use Rattle.std.proofs.Common.{◌≡◌, ℕ, suc, ◌+◌, ◌-◌, ◌<◌, ◌≤◌, Bool, true, false, cond, eqb, ltb, List, [], ◌∷◌, ◌++◌, length, sym, refl, ap, ◌∙◌, arith}
use Rattle.std.proofs.lemmas.Bool.{cond-true, eq-eqb, lt-ltb, ltb-false}
use Rattle.std.proofs.lemmas.Bool.Decides.{nat_tests}
use Rattle.counting.specs.Sums.{times, one_if}
use Rattle.std.specs.List.{range_with_len}
use Rattle.counting.proofs.Sums.{times_append, range_more}
use Rattle.suzuki_rules.specs.Invariant.{Sound}
use Rattle.suzuki_rules.specs.Rules.{order, enqueued, searched, token_after, rest}
use Rattle.suzuki_rules.specs.State.{State, queued, wants}
use Rattle.suzuki_rules.proofs.Search.{order_visits, visits_site, searched_once, searched_site, room_for}
use Rattle.suzuki_rules.specs.declared.Token.{Token}
use Rattle.suzuki_kasami.specs.Places.{place}
use Rattle.suzuki_kasami.specs.Waiting.{AllBelow, pushed, noted, gathered}

either : (in_queue waits : Bool) (q p r : List ℕ) → (in_queue ≡ false → p ≡ r) → cond in_queue q (cond waits p q) ≡ cond in_queue q (cond waits r q)
either true waits q p r new = refl
either false true q p r new = new refl
either false false q p r new = refl

module _ (s : State) (i : ℕ) where
  pub gathered_append : (q xs ys : List ℕ) → gathered s i q (xs ++ ys) ≡ gathered s i (gathered s i q xs) ys
  gathered_append q [] ys = refl
  gathered_append q (j ∷ xs) ys = gathered_append (noted s i q j) xs ys

  -- One more site after those gathered so far,
  pub gathered_more : (q xs : List ℕ) (j : ℕ) → gathered s i q (xs ++ (j ∷ [])) ≡ noted s i (gathered s i q xs) j
  gathered_more q xs j = gathered_append q xs (j ∷ [])

  -- and the next one of a range.
  pub gathered_next : (q : List ℕ) (from j : ℕ) → from ≤ j → noted s i (gathered s i q (range_with_len from (j - from))) j ≡ gathered s i q (range_with_len from (j + 1 - from))
  gathered_next q from j below =
      let more : j + 1 - from ≡ suc (j - from) = omega arith in
      sym (gathered_more q (range_with_len from (j - from)) j)
      ∙ ap (gathered s i q) (sym (range_more from (j - from) j (omega arith)))
      ∙ ap (λ n. gathered s i q (range_with_len from n)) (sym more)

  noted_site : (n : ℕ) (q : List ℕ) (j : ℕ) → AllBelow q n → j < n → AllBelow (noted s i q j) n
  noted_site n q j old near = λ x h. grind (arith, nat_tests, times_append q (j ∷ []) x, old x)

  -- What is gathered are sites that were in the queue before or are gone through.
  pub gathered_site : (n : ℕ) (q js : List ℕ) → AllBelow q n → AllBelow js n → AllBelow (gathered s i q js) n
  gathered_site n q [] old new = old
  gathered_site n q (j ∷ js) old new =
      gathered_site n (noted s i q j) js (noted_site n q j old (new j (grind (arith, nat_tests)))) (λ x p. new x (omega arith))

  module _ (few : s.sites ≤ 16) where
    -- A site that is not queued finds room.
    noted_enqueued : (q : List ℕ) (j : ℕ) → ((x : ℕ) → 0 < times q x → x < s.sites) → ((x : ℕ) → times q x ≤ 1) → j < s.sites → noted s i q j ≡ enqueued s i q j
    noted_enqueued q j below once h =
        either (queued q j) (wants s i j) q (pushed q j) (q ++ (j ∷ [])) (λ out.
        let none : times q j ≡ 0 = omega (arith, ltb-false 0 (times q j) out) in
        let room : length q < 16 = omega (arith, room_for q s.sites j below once none h) in
        cond-true (ltb (length q) 16) (q ++ (j ∷ [])) q (lt-ltb (length q) 16 room))

    gathered_all : (q js : List ℕ) → ((x : ℕ) → 0 < times q x → x < s.sites) → ((x : ℕ) → times q x ≤ 1) → ((x : ℕ) → 0 < times js x → x < s.sites) → gathered s i q js ≡ searched s i q js
    gathered_all q [] below once within = refl
    gathered_all q (j ∷ js) below once within =
        let here : one_if (eqb j j) ≡ 1 = cond-true (eqb j j) 1 0 (eq-eqb j j refl) in
        ap (λ x. gathered s i x js) (noted_enqueued q j below once (within j (omega arith)))
        ∙ gathered_all (enqueued s i q j) js (searched_site s i s.sites q (j ∷ []) below (λ x p. within x (omega arith))) (searched_once s i q (j ∷ []) once) (λ x p. within x (omega arith))

pub gathered_sound : (s : State) (i : ℕ) → Sound s → i < s.sites → gathered s i s.queue (order i s.sites) ≡ searched s i s.queue (order i s.sites)
gathered_sound s i sound h =
    gathered_all s i sound.most s.queue (order i s.sites) sound.queue_site sound.once (visits_site (order i s.sites) s.sites i (order_visits i s.sites h))

-- The token's place and the queue that is left, whose sites were below 16 before.
pub passed_place : (t : Token) (q : List ℕ) → place t < 16 → AllBelow q 16 → place (token_after q t) < 16
passed_place t [] at near = at
passed_place t (j ∷ q) at near = near j (grind (arith, nat_tests))

pub rest_site : (q : List ℕ) → AllBelow q 16 → AllBelow (rest q) 16
rest_site [] near = near
rest_site (j ∷ q) near = λ x h. near x (omega arith)
