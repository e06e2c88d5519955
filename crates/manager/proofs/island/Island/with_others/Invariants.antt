use Rattle.std.proofs.Common.{◌≡◌, ℕ, not, ◌&&◌, cond, eqb, ltb, get_or}
use Rattle.manager.proofs.island.Island.with_others.Given as goal

abbrev pub invariant-loop-other : goal.invariant-loop-other
invariant-loop-other g l = (j : ℕ) (d : _) → get_or l.place-items j d ≡ cond (ltb j l.other && not (eqb j l.site)) l.value (get_or l.initial.place-items j d)
