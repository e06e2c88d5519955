use Rattle.std.proofs.Common.{◌≡◌, ◌+◌, ◌-◌, sym, ap, ◌∙◌, arith}
use Rattle.std.specs.List.{range_with_len}
use Rattle.suzuki_kasami.specs.Reading.{state_of}
use Rattle.suzuki_kasami.specs.Waiting.{gathered}
use Rattle.suzuki_kasami.proofs.Gathering.{gathered_append}
use Rattle.suzuki_kasami.proofs.state.SuzukiKasami.search.Goals as goal

pub returns : goal.returns
returns c =
    let s = state_of c.args.self.now in
    let i = c.args.site in
    let after = range_with_len (i + 1) (c.args.self.now.island.sites - (i + 1)) in
    let before = range_with_len 0 i in
    let all : i - 0 ≡ i = omega arith in
    record {
      goes_through_all_in_order = c.search_among-2.ensures.goes_through_them_in_order
          ∙ ap (λ k. gathered s i c.search_among.new.queue.items (range_with_len 0 k)) all
          ∙ ap (λ q. gathered s i q before) c.search_among.ensures.goes_through_them_in_order
          ∙ sym (gathered_append s i c.args.queue.now.items after before);
    }
