use Rattle.std.proofs.Common.{◌≡◌, ◌-◌, ap, ◌∙◌, arith}
use Rattle.std.specs.List.{range_with_len}
use Rattle.suzuki_kasami.specs.Reading.{state_of}
use Rattle.suzuki_kasami.specs.Waiting.{gathered, noted}
use Rattle.suzuki_kasami.proofs.Gathering.{gathered_next}
use Rattle.suzuki_kasami.proofs.state.SuzukiKasami.search_among.Goals as goal

pub loop-other-preserved : goal.loop-other-preserved
loop-other-preserved c =
    let s = state_of c.args.self.now in
    let i = c.args.site in
    let j = c.loop-other.other in
    record {
      gathers = c.enqueue.ensures.notes_the_other ∙ ap (λ q. noted s i q j) c.loop-other.invariant.gathers
          ∙ gathered_next s i c.args.queue.now.items c.args.from j (omega arith);
      within = omega (arith, c.loop-other-test.true);
    }

pub returns : goal.returns
returns c =
    let q = c.args.queue.now.items in
    let all : c.loop-other.other - c.args.from ≡ c.args.to - c.args.from = omega (arith, c.loop-other-test.false, c.loop-other.invariant.within) in
    record { goes_through_them_in_order = c.loop-other.invariant.gathers ∙ ap (λ n. gathered (state_of c.args.self.now) c.args.site q (range_with_len c.args.from n)) all }
