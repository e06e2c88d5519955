-- What the programs print of a run. Assumes nothing.
use Rattle.std.specs.Prelude.{◌≡◌, ℕ, ◌+◌, ◌-◌, ◌*◌, ◌^◌, min, List, ◌++◌, codes, decimal}
use Rattle.manager.specs.Answers.{toll_shown}
use Rattle.manager.specs.Kinds.{Kind}
use Rattle.broker.specs.Reading.{records_of}
use Rattle.broker.specs.declared.state.Broker.{Broker}
use Rattle.programs.specs.declared.report.Report.{Report}

abbrev pub grant_in_words : (site waited : ℕ) → List ℕ
grant_in_words site waited = codes "site " ++ (decimal site ++ (codes " holds after " ++ (decimal waited ++ codes " steps")))

-- The steps that the promise about every history allows, as far as 64 bits can tell.
abbrev pub most_steps : Report → ℕ
most_steps r = min (r.toll * min (min (r.asks + r.frees) (2 ^ 64 - 1) + 1) (2 ^ 64 - 1)) (2 ^ 64 - 1)

-- The report has what the broker shows.
pub record ReportOf {S : Type 0} (kind : Kind S) (b : Broker S) (r : Report) : Type 0 where
  pub sites : r.sites ≡ (kind.meaning b.manager).sites
  pub asks : r.asks ≡ (records_of b).asks
  pub frees : r.frees ≡ (records_of b).frees
  pub steps : r.steps ≡ (records_of b).steps
  pub toll : r.toll ≡ toll_shown (kind.meaning b.manager)
