-- What a state's tests say of it: who has the token, who is called, who is barred, and what is under way.
use Rattle.std.proofs.Common.{◌≡◌, ℕ, ◌+◌, ◌<◌, ◌≤◌, true, false, not, ◌&&◌, ◌||◌, eqb, ◌⊎◌, List, [], ◌∷◌, Some, None, Option, refl, ap, ◌∙◌, inl, inr, arith}
use Rattle.std.proofs.lemmas.Bool.{and_parts, and_from, or_cases, or_right, not-true, cases_eq}
use Rattle.std.proofs.lemmas.Bool.Decides.{nat_tests}
use Rattle.counting.specs.Cells.{Small}
use Rattle.counting.specs.Sums.{times}
use Rattle.counting.proofs.Tests.{any_some, any_from}
use Rattle.manager.specs.Meaning.{is_holding}
use Rattle.manager.proofs.Statuses.{holds_of}
use Rattle.manager.specs.declared.status.Status.{Status}
use Rattle.manager.specs.declared.status.Status.TheVariants.{Idle, Waiting, Holding}
use Rattle.suzuki_rules.specs.State.{State, has_token, wants}
use Rattle.suzuki_rules.specs.Invariant.{Sound, Heard}
use Rattle.suzuki_rules.specs.Rules.{requests}
use Rattle.suzuki_rules.specs.Reading.{wanted, empty, is_called, is_barred}
use Rattle.suzuki_rules.specs.declared.Token.{Token}
use Rattle.suzuki_rules.specs.declared.Token.TheVariants.{At, Sent}

pub has_token_at : (s : State) (i : ℕ) → has_token s i ≡ true → s.token ≡ At i
has_token_at s i h = grind (arith, nat_tests)

-- A barred site is told by the token's way to another.
pub barred_sent : (s : State) (i : ℕ) → is_barred s i ≡ true → (t : ℕ) × (s.token ≡ Sent t) × (t ≡ i → ⊥)
barred_sent s i h = go s.token refl
  where
    go : (x : Token) → s.token ≡ x → (t : ℕ) × (s.token ≡ Sent t) × (t ≡ i → ⊥)
    go (At t) e = absurd (grind (arith, nat_tests))
    go (Sent t) e = (t, e, λ q. grind (arith, nat_tests))

pub sent_bars : (s : State) (t i : ℕ) → s.token ≡ Sent t → (t ≡ i → ⊥) → is_barred s i ≡ true
sent_bars s t i e ne = grind (arith, nat_tests)

pub wanted_some : (s : State) (i n : ℕ) → wanted s i n ≡ true → (j : ℕ) × (j < n) × (j ≡ i → ⊥) × (wants s i j ≡ true)
wanted_some s i n h =
    let w = any_some (λ j. wants s i j && not (eqb j i)) n h in
    (w.0, w.1, λ e. grind (arith, nat_tests, w.2), (and_parts (wants s i w.0) (not (eqb w.0 i)) w.2).0)

pub wanted_from : (s : State) (i j n : ℕ) → j < n → (j ≡ i → ⊥) → wants s i j ≡ true → wanted s i n ≡ true
wanted_from s i j n h ne w = any_from (λ j. wants s i j && not (eqb j i)) n j h (grind (arith, nat_tests))

-- The queue has a site, or site i knows one to wait.
abbrev pub Wanted : State → ℕ → Type 0
Wanted s i = (empty s.queue ≡ false) ⊎ ((j : ℕ) × (j < s.sites) × (j ≡ i → ⊥) × (wants s i j ≡ true))

pub called_holds : (s : State) (i : ℕ) → is_called s i ≡ true → s.status i ≡ Holding
called_holds s i h = holds_of (s.status i) (and_parts (is_holding (s.status i)) (not (empty s.queue) || wanted s i s.sites) h).0

pub called_wanted : (s : State) (i : ℕ) → is_called s i ≡ true → Wanted s i
called_wanted s i h =
    elim (or_cases (not (empty s.queue)) (wanted s i s.sites) (and_parts (is_holding (s.status i)) (not (empty s.queue) || wanted s i s.sites) h).1) [
      | inl p ↦ inl (not-true (empty s.queue) p)
      | inr p ↦ inr (wanted_some s i s.sites p)
    ]

pub called_from : (s : State) (i : ℕ) → s.status i ≡ Holding → Wanted s i → is_called s i ≡ true
called_from s i h (inl p) = grind arith
called_from s i h (inr w) =
    let k : wanted s i s.sites ≡ true = wanted_from s i w.0 s.sites w.1 w.2 w.3 in
    and_from (is_holding (s.status i)) (not (empty s.queue) || wanted s i s.sites) (ap is_holding h) (or_right (not (empty s.queue)) (wanted s i s.sites) k)

-- Called lasts where the queue stays, a holder holds on, and whom i knew to wait it still does.
pub called_kept : (s s' : State) (i : ℕ) → s'.sites ≡ s.sites → s'.queue ≡ s.queue → s'.status i ≡ Holding → ((j : ℕ) → j < s.sites → (j ≡ i → ⊥) → wants s i j ≡ true → wants s' i j ≡ true) → is_called s i ≡ true → is_called s' i ≡ true
called_kept s s' i n q h w c = called_from s' i h (elim (called_wanted s i c) [
  | inl p ↦ inl (ap empty q ∙ p)
  | inr k ↦ inr (k.0, omega (arith, k.1), k.2, w k.0 k.1 k.2 k.3)
])

-- A queue that is not empty has a site in it.
pub queued_some : (q : List ℕ) → empty q ≡ false → (j : ℕ) × (0 < times q j)
queued_some [] h = grind arith
queued_some (j ∷ q) h = (j, grind (arith, nat_tests))

pub requests_most : (s : State) (a b : ℕ) → requests s a b ≤ 1
requests_most s a b = grind arith

-- So the table of the REQUESTs is small.
pub requests_small : (s : State) → s.sites ≤ 16 → Small (requests s) s.sites
requests_small s few = record { few_rows = few; few_in_a_cell = λ a b. omega (arith, requests_most s a b) }

pub requests_none : (s : State) (a b : ℕ) → requests s a b ≡ 0 → s.link a b ≡ None
requests_none s a b h = grind arith

pub heard_same : (o o' : Option ℕ) (own own' heard heard' : ℕ) → o' ≡ o → own' ≡ own → heard' ≡ heard → Heard o own heard → Heard o' own' heard'
heard_same o o' own own' heard heard' p q r h = rw (p, q, r) h

-- Nobody knows of a site a number above its own.
pub known_most : (s : State) (i j : ℕ) → Sound s → i < s.sites → j < s.sites → s.known j i ≤ s.known i i
known_most s i j v hi hj = elim (cases_eq i j) [ inl e ↦ grind arith | inr ne ↦ go (s.link i j) (v.heard i j hi hj ne) ]
  where
    go : (o : Option ℕ) → Heard o (s.known i i) (s.known j i) → s.known j i ≤ s.known i i
    go (Some m) h = omega arith
    go None h = omega arith

-- A site without the token that has a request unserved waits.
pub unserved_waits : (s : State) (i j : ℕ) → Sound s → s.token ≡ At i → j < s.sites → (j ≡ i → ⊥) → s.known j j ≡ s.served j + 1 → s.status j ≡ Waiting
unserved_waits s i j v e hj ne own = go (s.status j) refl
  where
    go : (x : Status) → s.status j ≡ x → s.status j ≡ Waiting
    go Idle k = absurd (omega (arith, v.idle_served j hj k))
    go Waiting k = k
    go Holding k = absurd (let p : s.token ≡ At j = v.holder_has j hj k in ne (cc))

-- Whom the token's site knows to wait does wait.
pub wanted_waits : (s : State) (i j : ℕ) → Sound s → s.token ≡ At i → j < s.sites → (j ≡ i → ⊥) → wants s i j ≡ true → s.status j ≡ Waiting
wanted_waits s i j v e hj ne w =
    unserved_waits s i j v e hj ne (grind (arith, nat_tests, known_most s j i v hj (v.at_site i e), v.served_high j hj))
