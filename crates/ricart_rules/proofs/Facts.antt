-- What a state's tests say of it: who lacks a REPLY, who is called, who is barred, whose stamp is earlier, and what is
-- under way.
use Rattle.std.proofs.Common.{◌≡◌, ℕ, ◌+◌, ◌<◌, ◌≤◌, true, false, not, ◌&&◌, eqb, sym, ap, arith}
use Rattle.std.proofs.lemmas.Bool.{and_parts, and_from, not-true, not_from_false}
use Rattle.std.proofs.lemmas.Bool.Decides.{nat_tests}
use Rattle.counting.specs.Tables.{total}
use Rattle.counting.specs.Tests.{any}
use Rattle.counting.proofs.Sums.{one_if_most}
use Rattle.counting.proofs.Tables.{total_add}
use Rattle.counting.proofs.Tests.{any_some, any_from, any_none, none_any}
use Rattle.manager.specs.Meaning.{is_holding, is_waiting}
use Rattle.manager.proofs.Statuses.{holds_of}
use Rattle.manager.specs.declared.status.Status.TheVariants.{Waiting, Holding}
use Rattle.ricart_rules.specs.Invariant.{Sound}
use Rattle.ricart_rules.specs.Reading.{is_called, is_held, yields_to, is_barred}
use Rattle.ricart_rules.specs.Rules.{requests, replies, messages}
use Rattle.ricart_rules.specs.State.{State, earlier, is_requested, is_deferred, is_replied, is_received, answered, lacks}
use Rattle.ricart_rules.specs.declared.Stage.{Stage}
use Rattle.ricart_rules.specs.declared.Stage.TheVariants.{Unasked, Deferred, Received}

pub deferred_of : (x : Stage) → is_deferred x ≡ true → x ≡ Deferred
deferred_of x h = grind arith

-- Who lacks a REPLY.
module _ (n i : ℕ) (stages : ℕ → Stage) where
  pub lacks_some : lacks n i stages ≡ true → (j : ℕ) × (j < n) × (j ≡ i → ⊥) × (stages j ≡ Received → ⊥)
  lacks_some h =
      let w = any_some (λ j. not (eqb j i) && not (is_received (stages j))) n h in
      (w.0, w.1, λ e. grind (arith, nat_tests, w.2), λ e. grind (arith, nat_tests, w.2))

  pub lacks_from : (j : ℕ) → j < n → (j ≡ i → ⊥) → (stages j ≡ Received → ⊥) → lacks n i stages ≡ true
  lacks_from j h ne r = any_from (λ j. not (eqb j i) && not (is_received (stages j))) n j h (grind (arith, nat_tests))

  pub lacks_none : lacks n i stages ≡ false → (j : ℕ) → j < n → (j ≡ i → ⊥) → stages j ≡ Received
  lacks_none none j h ne =
      let p = none_any (λ j. not (eqb j i) && not (is_received (stages j))) n j none h in
      grind (arith, nat_tests, p)

-- Who is called.
module _ (s : State) (i : ℕ) where
  pub called_holds : is_called s i ≡ true → s.status i ≡ Holding
  called_holds c = grind arith

  pub called_some : is_called s i ≡ true → (j : ℕ) × (j < s.sites) × (s.stage j i ≡ Deferred)
  called_some c =
      let w = any_some (λ j. is_deferred (s.stage j i)) s.sites (and_parts _ _ c).1 in
      (w.0, w.1, deferred_of (s.stage w.0 i) w.2)

  pub called_from : s.status i ≡ Holding → (j : ℕ) → j < s.sites → s.stage j i ≡ Deferred → is_called s i ≡ true
  called_from h j l d = and_from _ _ (ap is_holding h) (any_from (λ j. is_deferred (s.stage j i)) s.sites j l (ap is_deferred d))

-- Called lasts where a holder holds on, and whom it deferred it still does.
pub called_kept : (s s' : State) (i : ℕ) → s'.sites ≡ s.sites → s'.status i ≡ Holding → ((j : ℕ) → j < s.sites → s.stage j i ≡ Deferred → s'.stage j i ≡ Deferred) → is_called s i ≡ true → is_called s' i ≡ true
called_kept s s' i n h kept c =
    let w = called_some s i c in
    called_from s' i h w.0 (omega (arith, w.1)) (kept w.0 w.1 w.2)

-- Who is barred.
module _ (s : State) (i : ℕ) where
  pub barred_free : is_barred s i ≡ true → (j : ℕ) → j < s.sites → s.status j ≡ Holding → ⊥
  barred_free b j l h = none_any (λ j. is_holding (s.status j)) s.sites j (not-true _ (and_parts _ _ b).0) l (ap is_holding h)

  pub barred_some : is_barred s i ≡ true → (j : ℕ) × (j < s.sites) × (s.status j ≡ Waiting) × (answered (s.stage j i) ≡ true)
  barred_some b =
      let w = any_some (yields_to s i) s.sites (and_parts (not (is_held s)) _ b).1 in
      (w.0, w.1, grind (arith, w.2), (and_parts _ _ w.2).1)

  pub barred_from : ((j : ℕ) → j < s.sites → s.status j ≡ Holding → ⊥) → (j : ℕ) → j < s.sites → s.status j ≡ Waiting → answered (s.stage j i) ≡ true → is_barred s i ≡ true
  barred_from free j l w a =
      let none : is_held s ≡ false = any_none (λ j. is_holding (s.status j)) s.sites (λ j l h. free j l (holds_of _ h)) in
      let some : any (yields_to s i) s.sites ≡ true = any_from (yields_to s i) s.sites j l (and_from _ _ (ap is_waiting w) a) in
      and_from _ _ (not_from_false _ none) some

pub held_unbarred : (s : State) (i j : ℕ) → j < s.sites → s.status j ≡ Holding → is_barred s i ≡ false
held_unbarred s i j l h = grind (arith, barred_free s i)

-- Stamps are in a strict order, and no two sites have the same.
module _ (s : State) where
  pub earlier_irreflexive : (i : ℕ) → earlier s i i ≡ true → ⊥
  earlier_irreflexive i h = grind (arith, nat_tests)

  pub earlier_transitive : (i j k : ℕ) → earlier s i j ≡ true → earlier s j k ≡ true → earlier s i k ≡ true
  earlier_transitive i j k p q = grind (arith, nat_tests)

  pub earlier_total : (i j : ℕ) → (i ≡ j → ⊥) → earlier s j i ≡ false → earlier s i j ≡ true
  earlier_total i j ne h = grind (arith, nat_tests)

-- A site whose request is neither over nor answered by j waits.
pub unfinished_waits : (s : State) (i j : ℕ) → Sound s → i < s.sites → j < s.sites → (i ≡ j → ⊥) → (s.stage i j ≡ Unasked → ⊥) → (s.stage i j ≡ Received → ⊥) → s.status i ≡ Waiting
unfinished_waits s i j v hi hj ne u r = grind (arith, v.idle_unasked i j hi hj, v.holder_has i j hi hj ne)

pub exclusive : (s : State) → Sound s → (i j : ℕ) → i < s.sites → j < s.sites → s.status i ≡ Holding → s.status j ≡ Holding → (i ≡ j → ⊥) → ⊥
exclusive s v i j hi hj p q ne =
    grind (arith, v.holder_has i j hi hj ne p, v.holder_has j i hj hi (λ e. ne (sym e)) q, v.answered_first i j hi hj)

pub requests_most : (s : State) (a b : ℕ) → requests s a b ≤ 1
requests_most s a b = one_if_most (is_requested (s.stage a b))

pub replies_most : (s : State) (a b : ℕ) → replies s a b ≤ 1
replies_most s a b = one_if_most (is_replied (s.stage b a))

pub messages_most : (s : State) (a b : ℕ) → messages s a b ≤ 2
messages_most s a b = omega (arith, requests_most s a b, replies_most s a b)

pub messages_total : (s : State) (n : ℕ) → total (messages s) n ≡ total (requests s) n + total (replies s) n
messages_total s n = total_add (requests s) (replies s) n
