use Rattle.std.proofs.Common.{◌≡◌, ℕ, ◌<◌, [], length, get_or}
use Rattle.ricart_rules.specs.declared.Stage.TheVariants.{Unasked}
use Rattle.ricart_agrawala.specs.Answered.{answered_below}
use Rattle.ricart_agrawala.specs.Reading.{state_of}
use Rattle.ricart_agrawala.proofs.state.RicartAgrawala.answer_deferred.Given as goal

abbrev pub invariant-loop-row : goal.invariant-loop-row
invariant-loop-row l = record {
  tall : length l.row-items ≡ 16;
  wide : (i : ℕ) → i < 16 → length (get_or l.row-items i []) ≡ 16;
  answered : (a b : ℕ) → get_or (get_or l.row-items a []) b Unasked ≡ (answered_below (state_of l.fn.self) l.site l.row-index).stage a b;
}
