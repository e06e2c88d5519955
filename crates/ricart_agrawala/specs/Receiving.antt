-- The coming of a REPLY in two moves: it is noted, and then the receiver may hold. Assumes nothing.
use Rattle.std.specs.Prelude.{ℕ, ◌+◌, Bool, not, ◌&&◌}
use Rattle.counting.specs.Sums.{upd}
use Rattle.counting.specs.Tables.{upd2}
use Rattle.manager.specs.Meaning.{is_waiting}
use Rattle.manager.specs.declared.status.Status.TheVariants.{Holding}
use Rattle.ricart_rules.specs.State.{State, lacks}
use Rattle.ricart_rules.specs.declared.Stage.TheVariants.{Received}

-- The REPLY of a has come to b.
abbrev pub noted : State → (a b : ℕ) → State
noted s a b = record {
  sites = s.sites;
  status = s.status;
  highest = s.highest;
  number = s.number;
  stage = upd2 s.stage b a Received;
  age = s.age + 1;
}

-- Site i waits, and has every REPLY.
abbrev pub is_served : State → ℕ → Bool
is_served s i = is_waiting (s.status i) && not (lacks s.sites i (s.stage i))

abbrev pub holding : State → ℕ → State
holding s i = record {
  sites = s.sites;
  status = upd s.status i Holding;
  highest = s.highest;
  number = s.number;
  stage = s.stage;
  age = s.age;
}
