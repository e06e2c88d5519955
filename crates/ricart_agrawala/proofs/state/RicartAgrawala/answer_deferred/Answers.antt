use Rattle.std.proofs.Common.{◌≡◌, [], length, get_or, set, refl, ap, ◌∙◌, arith, length-set}
use Rattle.counting.proofs.Arrays.{wide_set}
use Rattle.ricart_agrawala.specs.Answered.{answered_below}
use Rattle.ricart_agrawala.specs.Reading.{state_of}
use Rattle.ricart_agrawala.proofs.Answering.{row_answered}
use Rattle.ricart_agrawala.proofs.States.{same_state}
use Rattle.ricart_agrawala.proofs.state.RicartAgrawala.answer_deferred.Goals as goal

pub loop-row-preserved : goal.loop-row-preserved
loop-row-preserved c =
    let rows = c.loop-row.row-items in
    let n = c.loop-row.row-index in
    let i = c.args.site in
    let tall = c.loop-row.invariant.tall in
    let row : length (get_or rows n []) ≡ 16 = c.loop-row.invariant.wide n (omega arith) in
    record {
      tall = simp length-set tall;
      wide = λ a h. wide_set rows n (set (get_or rows n []) i c.answered.result) 16 (omega arith) (simp length-set row) a (c.loop-row.invariant.wide a h);
      answered = row_answered (state_of c.args.self.now) rows i n _ (omega arith) (omega arith) c.loop-row.invariant.answered c.answered.ensures;
    }

pub returns : goal.returns
returns c =
    let m = c.args.self.now in
    let all : c.loop-row.row-index ≡ 16 = omega arith in
    same_state _ _ record {
      sites = refl;
      status = λ i. refl;
      highest = λ i. refl;
      number = λ i. refl;
      stage = λ a b. c.loop-row.invariant.answered a b ∙ ap (λ n. (answered_below (state_of m) c.args.site n).stage a b) all;
      age = refl;
    }
