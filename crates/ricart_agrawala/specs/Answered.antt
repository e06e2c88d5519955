-- A free's answers to the sites that were deferred, so far as they are sent. Assumes nothing.
use Rattle.std.specs.Prelude.{ℕ, cond, ◌&&◌, ◌==◌, nat_lt}
use Rattle.ricart_rules.specs.State.{State, is_deferred}
use Rattle.ricart_rules.specs.declared.Stage.TheVariants.{Replied}

-- Site i has sent a REPLY to each site below n that it deferred.
abbrev pub answered_below : State → (i n : ℕ) → State
answered_below s i n = record {
  sites = s.sites;
  status = s.status;
  highest = s.highest;
  number = s.number;
  stage = λ a b. cond (nat_lt a n && (b == i && is_deferred (s.stage a b))) Replied (s.stage a b);
  age = s.age;
}
