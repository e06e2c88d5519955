-- What a tie means as a manager, from the meanings of its parts alone. Assumes nothing.
use Rattle.std.specs.Prelude.{ℕ, ◌+◌, ◌-◌, ◌*◌, min, max, cond, Some, None, Option, ◌==◌, nat_lt}
use Rattle.counting.specs.Sums.{one_if}
use Rattle.manager.specs.Kinds.{Kind}
use Rattle.manager.specs.Meaning.{Meaning, limit}
use Rattle.gateway.specs.Automaton.{last}
use Rattle.tie_rules.specs.Sides.{Side, due, moves, barred_on}
use Rattle.tie_rules.specs.State.{Tie}

-- The largest toll of the three parts.
abbrev pub largest : (a b : Side) (o : Meaning) → ℕ
largest a b o = max a.island.toll (max b.island.toll o.toll)

-- How many things are under way: those of the three parts, and the moves of the gateways that are due.
abbrev pub things : (a b : Side) (o : Meaning) → ℕ
things a b o = a.island.underway + b.island.underway + o.underway + one_if (due a o) + one_if (due b o)

-- A left and a right side joined. The tie's sites are the left island's, then the right's, without the gateways; only the
-- first 64 are reachable. Each move of a gateway costs one call of a part, so it is worth one more than the largest toll.
abbrev pub joined : (a b : Side) (o : Meaning) (age : ℕ) → Meaning
joined a b o age = record {
  sites = min 64 (a.gateway + b.gateway);
  status = λ i. cond (nat_lt i a.gateway) (a.island.status i) (b.island.status (i - a.gateway));
  called = λ i. cond (nat_lt i a.gateway) (a.island.called i) (b.island.called (i - a.gateway));
  barred = λ i. cond (nat_lt i a.gateway) (barred_on a b o i) (barred_on b a o (i - a.gateway));
  underway = min limit (things a b o);
  work = a.island.work + b.island.work + o.work + (largest a b o + 1) * moves a b;
  toll = 9 * (largest a b o + 1);
  age = age;
}

-- The grant of an island's step, told by the tie's numbers: a gateway that comes to hold is no grant.
abbrev pub lifted : (gateway offset : ℕ) → Option ℕ → Option ℕ
lifted gateway offset None = None
lifted gateway offset (Some i) = cond (i == gateway) None (Some (i + offset))

module _ {L R O : Type 0} (kl : Kind L) (kr : Kind R) (ko : Kind O) (t : Tie L R O) where
  -- How many sites of the left island are sites of the tie, the right island's first coming after them.
  abbrev pub border : ℕ
  border = last (kl.meaning t.left)

  abbrev pub left_side : Side
  left_side = record { island = kl.meaning t.left; gate = t.left_gate; gateway = border; post = 0; offset = 0 }

  abbrev pub right_side : Side
  right_side = record { island = kr.meaning t.right; gate = t.right_gate; gateway = last (kr.meaning t.right); post = 1; offset = border }

  abbrev pub meaning_of : Meaning
  meaning_of = joined left_side right_side (ko.meaning t.outer) t.age
