-- What each call does, by the published rules. Assumes nothing.
use Rattle.std.specs.Prelude.{◌≡◌, ℕ, ◌+◌, ◌-◌, ◌<◌, max, Bool, cond, not, ◌&&◌, ◌||◌, Some, None, Option, ◌==◌, nat_lt}
use Rattle.counting.specs.Sizes.{fitted}
use Rattle.counting.specs.Sums.{one_if, upd}
use Rattle.counting.specs.Tables.{before, upd2}
use Rattle.manager.specs.Meaning.{is_waiting, is_holding}
use Rattle.manager.specs.declared.status.Status.TheVariants.{Idle, Waiting, Holding}
use Rattle.ricart_rules.specs.State.{State, earlier, is_requested, is_deferred, is_replied, lacks}
use Rattle.ricart_rules.specs.declared.Stage.{Stage}
use Rattle.ricart_rules.specs.declared.Stage.TheVariants.{Unasked, Requested, Deferred, Replied, Received}

-- The stages, but x for the request of site i with each other site below n.
abbrev pub with_others : (n i : ℕ) → Stage → (ℕ → ℕ → Stage) → ℕ → ℕ → Stage
with_others n i x stage a b = cond (a == i && (nat_lt b n && not (b == i))) x (stage a b)

-- n sites parked at g: its number is 1 and it has every REPLY, the highest number of every site is 1, and nothing is
-- under way. (The number of an idle site means nothing.)
abbrev pub fresh : (n g : ℕ) → State
fresh n g = record {
  sites = n;
  status = upd (λ i. Idle) g Holding;
  highest = λ i. 1;
  number = λ i. 1;
  stage = with_others n g Received (λ i j. Unasked);
  age = 0;
}

abbrev pub parked : State → ℕ → State
parked s g = fresh s.sites g

-- A new manager is parked at its last site.
abbrev pub made : ℕ → State
made n = fresh (fitted n) (fitted n - 1)

-- Site i takes the number after the highest that it has received, and sends a REQUEST with its stamp to all others.
abbrev pub asked : State → ℕ → State
asked s i = record {
  sites = s.sites;
  status = upd s.status i Waiting;
  highest = s.highest;
  number = upd s.number i (s.highest i + 1);
  stage = with_others s.sites i Requested s.stage;
  age = s.age + 1;
}

-- Site i sends a REPLY to each site that it deferred, and its own request is over.
abbrev pub freed : State → ℕ → State
freed s i = record {
  sites = s.sites;
  status = upd s.status i Idle;
  highest = s.highest;
  number = s.number;
  stage = λ a b. cond (a == i) Unasked (cond (b == i && is_deferred (s.stage a b)) Replied (s.stage a b));
  age = s.age + 1;
}

-- Site b defers its answer to a if it holds, or waits with the earlier stamp.
abbrev pub defers : State → (b a : ℕ) → Bool
defers s b a = is_holding (s.status b) || (is_waiting (s.status b) && earlier s b a)

-- The REQUEST of a comes to b, which raises its highest number to that of a, and defers the answer or sends a REPLY.
abbrev pub received : State → (a b : ℕ) → State
received s a b = record {
  sites = s.sites;
  status = s.status;
  highest = upd s.highest b (max (s.highest b) (s.number a));
  number = s.number;
  stage = upd2 s.stage a b (cond (defers s b a) Deferred Replied);
  age = s.age + 1;
}

-- Is the REPLY of a, which comes to b, the last that b waits for?
abbrev pub completes : State → (a b : ℕ) → Bool
completes s a b = is_waiting (s.status b) && not (lacks s.sites b (upd2 s.stage b a Received b))

-- The REPLY of a comes to b, which holds if it was the last.
abbrev pub replied : State → (a b : ℕ) → State
replied s a b = record {
  sites = s.sites;
  status = cond (completes s a b) (upd s.status b Holding) s.status;
  highest = s.highest;
  number = s.number;
  stage = upd2 s.stage b a Received;
  age = s.age + 1;
}

-- The site that a REPLY from a to b brings to hold.
abbrev pub served : State → (a b : ℕ) → Option ℕ
served s a b = cond (completes s a b) (Some b) None

-- 1 for a REQUEST under way from a to b, else 0
abbrev pub requests : State → (a b : ℕ) → ℕ
requests s a b = one_if (is_requested (s.stage a b))

-- 1 for a REPLY under way from a to b, else 0
abbrev pub replies : State → (a b : ℕ) → ℕ
replies s a b = one_if (is_replied (s.stage b a))

-- The messages under way from a to b.
abbrev pub messages : State → (a b : ℕ) → ℕ
messages s a b = requests s a b + replies s a b

-- Messages under way are numbered by sender, then by receiver, on each link the REQUEST before the REPLY: message k is
-- the one with k before it.
pub data Delivered (s : State) (k : ℕ) : Option ℕ → State → Type 0 where
  request_comes : (a b : ℕ) → a < s.sites → b < s.sites → s.stage a b ≡ Requested → before (messages s) s.sites a b ≡ k → Delivered s k None (received s a b)
  reply_comes : (a b : ℕ) → a < s.sites → b < s.sites → s.stage b a ≡ Replied → before (messages s) s.sites a b + requests s a b ≡ k → Delivered s k (served s a b) (replied s a b)
