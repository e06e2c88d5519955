-- What each call does, by the published rules. Assumes nothing.
use Rattle.std.specs.Prelude.{◌≡◌, ℕ, ◌+◌, ◌-◌, ◌<◌, max, cond, not, ◌&&◌, List, [], ◌∷◌, ◌++◌, Some, None, Option, ◌==◌, nat_lt}
use Rattle.std.specs.List.{range_with_len}
use Rattle.counting.specs.Sizes.{fitted}
use Rattle.counting.specs.Sums.{upd}
use Rattle.counting.specs.Tables.{before, total, upd2}
use Rattle.manager.specs.Meaning.{is_idle}
use Rattle.manager.specs.declared.status.Status.TheVariants.{Idle, Waiting, Holding}
use Rattle.suzuki_rules.specs.State.{State, has_token, wants, queued}
use Rattle.suzuki_rules.specs.declared.Token.{Token}
use Rattle.suzuki_rules.specs.declared.Token.TheVariants.{At, Sent}

-- n sites parked at g: the token is there, all numbers are 0, the queue is empty and nothing is under way.
abbrev pub fresh : (n g : ℕ) → State
fresh n g = record {
  sites = n;
  status = upd (λ i. Idle) g Holding;
  known = λ i j. 0;
  link = λ i j. None;
  token = At g;
  served = λ i. 0;
  queue = [];
  age = 0;
}

abbrev pub parked : State → ℕ → State
parked s g = fresh s.sites g

-- A new manager is parked at its last site.
abbrev pub made : ℕ → State
made n = fresh (fitted n) (fitted n - 1)

-- The site that has the token holds there and then.
abbrev pub held : State → ℕ → State
held s i = record {
  sites = s.sites;
  status = upd s.status i Holding;
  known = s.known;
  link = s.link;
  token = s.token;
  served = s.served;
  queue = s.queue;
  age = s.age + 1;
}

-- Any other adds 1 to its own number and sends a REQUEST with it to all others. One still under way is replaced.
abbrev pub requested : State → ℕ → State
requested s i = record {
  sites = s.sites;
  status = upd s.status i Waiting;
  known = upd2 s.known i i (s.known i i + 1);
  link = λ a b. cond (a == i && (nat_lt b s.sites && not (b == i))) (Some (s.known i i + 1)) (s.link a b);
  token = s.token;
  served = s.served;
  queue = s.queue;
  age = s.age + 1;
}

abbrev pub asked : State → ℕ → State
asked s i = cond (has_token s i) (held s i) (requested s i)

-- The order in which a freeing site goes through the others: those after it, then those before it.
abbrev pub order : (i n : ℕ) → List ℕ
order i n = range_with_len (i + 1) (n - (i + 1)) ++ range_with_len 0 i

-- Site i queues j unless it is queued already or is not known to wait.
abbrev pub enqueued : State → ℕ → List ℕ → ℕ → List ℕ
enqueued s i q j = cond (queued q j) q (cond (wants s i j) (q ++ (j ∷ [])) q)

abbrev pub searched : State → ℕ → List ℕ → List ℕ → List ℕ
searched s i q [] = q
searched s i q (j ∷ js) = searched s i (enqueued s i q j) js

-- The first of the queue leaves it and is sent the token; with an empty queue the token stays.
abbrev pub token_after : List ℕ → Token → Token
token_after [] t = t
token_after (j ∷ q) t = Sent j

abbrev pub rest : List ℕ → List ℕ
rest [] = []
rest (j ∷ q) = q

-- A free at i, which goes through the other sites in the order given: it notes its own request as served, queues
-- whoever it knows to wait, and sends the token to the first of the queue.
abbrev pub freed_by : List ℕ → State → ℕ → State
freed_by sites s i = record {
  sites = s.sites;
  status = upd s.status i Idle;
  known = s.known;
  link = s.link;
  token = token_after (searched s i s.queue sites) s.token;
  served = upd s.served i (s.known i i);
  queue = rest (searched s i s.queue sites);
  age = s.age + 1;
}

abbrev pub freed : State → ℕ → State
freed s i = freed_by (order i s.sites) s i

-- A REQUEST with number m comes from a to b, which keeps the larger number. If b has the token, is idle, and now
-- knows a to wait, it sends the token to a.
abbrev pub received : State → (a b m : ℕ) → State
received s a b m = record {
  sites = s.sites;
  status = s.status;
  known = upd2 s.known b a (max (s.known b a) m);
  link = upd2 s.link a b None;
  token = cond (has_token s b && (is_idle (s.status b) && max (s.known b a) m == s.served a + 1)) (Sent a) s.token;
  served = s.served;
  queue = s.queue;
  age = s.age + 1;
}

-- The token comes to t, which holds from then on.
abbrev pub arrived : State → ℕ → State
arrived s t = record {
  sites = s.sites;
  status = upd s.status t Holding;
  known = s.known;
  link = s.link;
  token = At t;
  served = s.served;
  queue = s.queue;
  age = s.age + 1;
}

-- 1 for a REQUEST under way from a to b, else 0
abbrev pub requests : State → (a b : ℕ) → ℕ
requests s a b = elim (s.link a b) [ Some m ↦ 1 | None ↦ 0 ]

-- Things under way are numbered by sender, then by receiver, the token last: thing k is the one with k before it.
pub data Delivered (s : State) (k : ℕ) : Option ℕ → State → Type 0 where
  request_comes : (a b m : ℕ) → a < s.sites → b < s.sites → s.link a b ≡ Some m → before (requests s) s.sites a b ≡ k → Delivered s k None (received s a b m)
  token_comes : (t : ℕ) → s.token ≡ Sent t → total (requests s) s.sites ≡ k → Delivered s k (Some t) (arrived s t)
