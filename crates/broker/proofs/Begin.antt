-- A broker that is made or started begins a history.
use Rattle.std.proofs.Common.{◌≡◌, ℕ, List, get_or, replicate, inl, inr, ap, ◌∙◌, arith}
use mathlib.Core.Path.{fun_ext}
use Rattle.std.proofs.lemmas.List.{get_or_past, get_or-replicate, length-replicate}
use Rattle.std.proofs.lemmas.Bool.{cases_lt}
use Rattle.history.specs.Records.{started}
use Rattle.broker.specs.Counting.{Counts}
use Rattle.broker.specs.Reading.{records_of}
use Rattle.broker.specs.declared.totals.Totals.{Totals}

zeros : (n i : ℕ) → get_or {A = ℕ} (replicate n 0) i 0 ≡ 0
zeros n i = elim (cases_lt i n) [
  | inl h ↦ get_or-replicate {A = ℕ} n i 0 0 h
  | inr h ↦ get_or_past {X = ℕ} (replicate n 0) i 0 (omega (arith, length-replicate {A = ℕ} n 0))
]

-- All totals 0, and 0 steps at each site's ask.
pub fresh : {S : Type 0} (m : S) (t : Totals) → Counts t 0 0 0 (replicate 64 0) → records_of (record { manager = m; totals = t }) ≡ started m
fresh m t counts =
    let asked = λ (i : ℕ). ap (λ (xs : List ℕ). get_or xs i 0) counts.asked ∙ zeros 64 i in
    λ k. record { manager = m; asks = counts.asks k; frees = counts.frees k; steps = counts.steps k; asked = fun_ext asked k }
