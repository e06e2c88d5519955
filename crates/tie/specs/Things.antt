-- Which of the things under way thing k of a tie is. Assumes nothing.
use Rattle.std.specs.Prelude.{◌≡◌, ℕ, ◌+◌, ◌<◌, true}
use Rattle.manager.specs.Kinds.{Kind}
use Rattle.tie_rules.specs.Reading.{left_side, right_side}
use Rattle.tie_rules.specs.Rules.{before_right, before_outer, before_left_move, before_right_move}
use Rattle.tie_rules.specs.Sides.{due}
use Rattle.tie_rules.specs.State.{Tie}
use Rattle.tie.specs.declared.things.Thing.{Thing}
use Rattle.tie.specs.declared.things.Thing.TheVariants.{Left, Right, Outer, LeftMove, RightMove}

module _ {L R O : Type 0} (kl : Kind L) (kr : Kind R) (ko : Kind O) (t : Tie L R O) where
  abbrev pub Numbered : ℕ → Thing → Type 0
  Numbered k (Left j) = (k ≡ j) × (j < (kl.meaning t.left).underway)
  Numbered k (Right j) = (k ≡ before_right kl kr ko t + j) × (j < (kr.meaning t.right).underway)
  Numbered k (Outer j) = (k ≡ before_outer kl kr ko t + j) × (j < (ko.meaning t.outer).underway)
  Numbered k LeftMove = (k ≡ before_left_move kl kr ko t) × (due (left_side kl kr ko t) (ko.meaning t.outer) ≡ true)
  Numbered k RightMove = (k ≡ before_right_move kl kr ko t) × (due (right_side kl kr ko t) (ko.meaning t.outer) ≡ true)
