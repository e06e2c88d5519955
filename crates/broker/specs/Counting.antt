-- How many calls a broker's totals count. Assumes nothing.
use Rattle.std.specs.Prelude.{◌≡◌, ℕ, ◌+◌, List}
use Rattle.broker.specs.declared.totals.Totals.{Totals}

-- How many calls were carried out.
abbrev pub age_of : Totals → ℕ
age_of t = t.asks + t.frees + t.steps

-- So many asks, frees and steps were carried out, and so many steps by each site's last ask.
pub record Counts (t : Totals) (many_asks many_frees many_steps : ℕ) (by_ask : List ℕ) : Type 0 where
  pub asks : t.asks ≡ many_asks
  pub frees : t.frees ≡ many_frees
  pub steps : t.steps ≡ many_steps
  pub asked : t.asked ≡ by_ask
