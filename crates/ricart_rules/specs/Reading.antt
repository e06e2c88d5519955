-- What a state of the algorithm means as a manager. Assumes nothing.
use Rattle.std.specs.Prelude.{ℕ, ◌+◌, ◌-◌, ◌*◌, Bool, not, ◌&&◌}
use Rattle.counting.specs.Tables.{total}
use Rattle.counting.specs.Tests.{any}
use Rattle.manager.specs.Meaning.{Meaning, is_waiting, is_holding}
use Rattle.ricart_rules.specs.Rules.{requests, replies, messages}
use Rattle.ricart_rules.specs.State.{State, answered, is_deferred}

-- A holder is called if it has deferred a site.
abbrev pub is_called : State → ℕ → Bool
is_called s i = is_holding (s.status i) && any (λ j. is_deferred (s.stage j i)) s.sites

-- Does some site hold?
abbrev pub is_held : State → Bool
is_held s = any (λ j. is_holding (s.status j)) s.sites

-- Does j wait, and has i sent it a REPLY?
abbrev pub yields_to : State → (i j : ℕ) → Bool
yields_to s i j = is_waiting (s.status j) && answered (s.stage j i)

-- A site is barred while no site holds and a site waits to which it has sent a REPLY.
abbrev pub is_barred : State → ℕ → Bool
is_barred s i = not (is_held s) && any (yields_to s i) s.sites

-- A REQUEST may bring a REPLY under way, so it is worth two.
abbrev pub meaning_of : State → Meaning
meaning_of s = record {
  sites = s.sites;
  status = s.status;
  called = is_called s;
  barred = is_barred s;
  underway = total (messages s) s.sites;
  work = 2 * total (requests s) s.sites + total (replies s) s.sites;
  toll = 2 * (s.sites - 1);
  age = s.age;
}
