use Rattle.std.proofs.Common.{◌≡◌, ◌≤◌, take}
use Rattle.roll.specs.Contents.{written}
use Rattle.roll.specs.Tellers.{tellers}
use Rattle.roll.proofs.list.Roll.count.Given as goal

-- `found` counts the elements passed so far, so it is at most their number.
abbrev pub invariant-loop-item : goal.invariant-loop-item
invariant-loop-item g l =
    (l.found ≡ tellers g.T.TellsSite.told (take l.item-index (written l.self)) l.site) × (l.found ≤ l.item-index)
