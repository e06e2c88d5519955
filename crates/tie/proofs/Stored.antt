-- A tie with one island as it was is the tie that it was.
use Rattle.std.proofs.Common.{◌≡◌, ◌≤◌}
use native.Mathlib.Bridge.{le_prop}
use Rattle.manager.specs.Meaning.{limit}
use Rattle.tie.specs.declared.side.Side.{Side}
use Rattle.tie.specs.declared.state.Tie.{Tie}

module _ {L R O : Type 0} (t : Tie L R O) (young : t.age ≤ limit) where
  pub left_as_was : (l : L) → l ≡ t.left.island →
      record { left = record { island = l; gate = t.left.gate }; right = t.right; outer = t.outer; age = t.age; young = young } ≡ t
  left_as_was l e = λ k.
      let left : Side L = record { island = e k; gate = t.left.gate } in
      record { left = left; right = t.right; outer = t.outer; age = t.age; young = le_prop young t.young k }

  pub right_as_was : (r : R) → r ≡ t.right.island →
      record { left = t.left; right = record { island = r; gate = t.right.gate }; outer = t.outer; age = t.age; young = young } ≡ t
  right_as_was r e = λ k.
      let right : Side R = record { island = e k; gate = t.right.gate } in
      record { left = t.left; right = right; outer = t.outer; age = t.age; young = le_prop young t.young k }
