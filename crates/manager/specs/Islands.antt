-- What an island means by its sites alone, with so many things under way: what a question about statuses and a refusal read of
-- it. Assumes nothing.
use Rattle.std.specs.Prelude.{ℕ, ◌-◌, ◌*◌, false, slice_index_or}
use Rattle.manager.specs.Meaning.{Meaning}
use Rattle.manager.specs.declared.island.Island.{Island}
use Rattle.manager.specs.declared.status.Status.TheVariants.{Idle}

abbrev pub alone : Island → (underway : ℕ) → Meaning
alone m underway = record {
  sites = m.sites;
  status = λ i. slice_index_or m.status i Idle;
  called = λ i. false;
  barred = λ i. false;
  underway = underway;
  work = 0;
  toll = 2 * (m.sites - 1);
  age = m.age;
}
