-- What a caller of a roll leans on: how long its contents are, and what one more element makes of them.
use Rattle.std.proofs.Common.{◌≡◌, ◌+◌, ◌<◌, false, [], ◌∷◌, ◌++◌, length, set, rules}
use Rattle.std.proofs.lemmas.List.{length-take-le, take_more_set}
use Rattle.roll.specs.Contents.{written, is_full}
use Rattle.roll.specs.declared.list.Roll.{Roll}

module _ {T : Type 0} where
  pub length_written : (r : Roll T) → length (written r) ≡ r.len
  length_written r = length-take-le r.len r.items.now r.fits

  pub room_unless_full : (r : Roll T) → is_full r ≡ false → r.len < length r.items.now
  room_unless_full r free = search rules

  -- Where a place is free, to write x there and to count one more adds x at the end.
  pub written_grows : (before after : Roll T) (x : T) → is_full before ≡ false → after.len ≡ before.len + 1 → after.items.now ≡ set before.items.now before.len x → written after ≡ written before ++ (x ∷ [])
  written_grows before after x free grows memory = let within = room_unless_full before free in search (rules, take_more_set)
