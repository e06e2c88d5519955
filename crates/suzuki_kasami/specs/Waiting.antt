-- The queue as it is stored: 16 places. Assumes nothing.
use Rattle.std.specs.Prelude.{ℕ, ◌<◌, cond, List, [], ◌∷◌, ◌++◌, length, nat_lt}
use Rattle.counting.specs.Sums.{times}
use Rattle.suzuki_rules.specs.State.{State, queued, wants}

-- Every site of the list is below n.
abbrev pub AllBelow : List ℕ → ℕ → Type 0
AllBelow q n = (site : ℕ) → 0 < times q site → site < n

-- A full queue takes no more.
abbrev pub pushed : List ℕ → ℕ → List ℕ
pushed q j = cond (nat_lt (length q) 16) (q ++ (j ∷ [])) q

-- Site i queues j, where there is room, unless it is queued already or is not known to wait.
abbrev pub noted : State → ℕ → List ℕ → ℕ → List ℕ
noted s i q j = cond (queued q j) q (cond (wants s i j) (pushed q j) q)

abbrev pub gathered : State → ℕ → List ℕ → List ℕ → List ℕ
gathered s i q [] = q
gathered s i q (j ∷ js) = gathered s i (noted s i q j) js
