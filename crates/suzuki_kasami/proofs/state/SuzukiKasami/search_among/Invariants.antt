use Rattle.std.proofs.Common.{◌≡◌, ◌-◌, ◌≤◌}
use Rattle.std.specs.List.{range_with_len}
use Rattle.suzuki_kasami.specs.Reading.{state_of}
use Rattle.suzuki_kasami.specs.Waiting.{gathered}
use Rattle.suzuki_kasami.proofs.state.SuzukiKasami.search_among.Given as goal

-- the sites gone through so far
abbrev pub invariant-loop-other : goal.invariant-loop-other
invariant-loop-other l = record {
  gathers : l.queue.items ≡ gathered (state_of l.self) l.site l.initial.queue.items (range_with_len l.from (l.other - l.from));
  within : l.other - l.from ≤ l.to - l.from;
}
