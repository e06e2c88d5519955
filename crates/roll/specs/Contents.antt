-- What a roll has: the elements written so far, and the places still free. Assumes nothing.
use Rattle.std.specs.Prelude.{ℕ, ◌-◌, Bool, List, length, take, ◌==◌}
use Rattle.roll.specs.declared.list.Roll.{Roll}

-- The elements, first to last.
abbrev pub written : {T : Type 0} → Roll T → List T
written r = take r.len r.items.now

-- How many places are free.
abbrev pub room_of : {T : Type 0} → Roll T → ℕ
room_of r = length r.items.now - r.len

-- Full: no place is free.
abbrev pub is_full : {T : Type 0} → Roll T → Bool
is_full r = room_of r == 0
