-- What a push answers and leaves. A full roll refuses and stays as it is; another takes the element in its first free
-- place, and no other place is written. Assumes nothing.
use Rattle.std.specs.Prelude.{ℕ, ◌+◌, cond, List, [], ◌∷◌, ◌++◌, Ok, Err, Result, slice_set}
use Rattle.manager.specs.declared.refusal.Refusal.{Refusal}
use Rattle.manager.specs.declared.refusal.Refusal.TheVariants.{RollFull}
use Rattle.roll.specs.Contents.{written, is_full}
use Rattle.roll.specs.declared.list.Roll.{Roll}

abbrev pub push_answer : {T : Type 0} → Roll T → Result (Unit {0}) Refusal
push_answer r = cond (is_full r) (Err RollFull) (Ok tt)

-- The elements after a push of x.
abbrev pub pushed_contents : {T : Type 0} → Roll T → T → List T
pushed_contents r x = cond (is_full r) (written r) (written r ++ (x ∷ []))

-- How many there are then.
abbrev pub pushed_len : {T : Type 0} → Roll T → ℕ
pushed_len r = cond (is_full r) r.len (r.len + 1)

-- All of the lent memory then.
abbrev pub pushed_memory : {T : Type 0} → Roll T → T → List T
pushed_memory r x = cond (is_full r) r.items.now (slice_set r.items.now r.len x)
