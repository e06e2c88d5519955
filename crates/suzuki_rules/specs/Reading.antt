-- What a state of the algorithm means as a manager. Assumes nothing.
use Rattle.std.specs.Prelude.{ℕ, ◌+◌, ◌-◌, ◌*◌, Bool, true, false, not, ◌&&◌, ◌||◌, List, [], ◌∷◌, ◌==◌}
use Rattle.counting.specs.Tables.{total}
use Rattle.counting.specs.Tests.{any}
use Rattle.manager.specs.Meaning.{Meaning, is_holding}
use Rattle.suzuki_rules.specs.Rules.{requests}
use Rattle.suzuki_rules.specs.State.{State, wants}
use Rattle.suzuki_rules.specs.declared.Token.{Token}
use Rattle.suzuki_rules.specs.declared.Token.TheVariants.{At, Sent}

-- Does i know one of the sites below n, other than itself, to wait?
abbrev pub wanted : State → ℕ → ℕ → Bool
wanted s i n = any (λ j. wants s i j && not (j == i)) n

abbrev pub empty : List ℕ → Bool
empty [] = true
empty (j ∷ q) = false

-- A holder is called if the queue is not empty or it knows another site to wait.
abbrev pub is_called : State → ℕ → Bool
is_called s i = is_holding (s.status i) && (not (empty s.queue) || wanted s i s.sites)

-- A site is barred while the token is on its way to another.
abbrev pub is_barred : State → ℕ → Bool
is_barred s i = elim s.token [ At t ↦ false | Sent t ↦ not (t == i) ]

abbrev pub tokens_sent : Token → ℕ
tokens_sent (At t) = 0
tokens_sent (Sent t) = 1

-- A REQUEST may bring the token under way, so it is worth two.
abbrev pub meaning_of : State → Meaning
meaning_of s = record {
  sites = s.sites;
  status = s.status;
  called = is_called s;
  barred = is_barred s;
  underway = total (requests s) s.sites + tokens_sent s.token;
  work = 2 * total (requests s) s.sites + tokens_sent s.token;
  toll = 2 * (s.sites - 1);
  age = s.age;
}
