use Rattle.std.proofs.Common.{rules}
use Rattle.std.proofs.lemmas.List.{take_all}
use Rattle.std.proofs.lemmas.Str.{length-encode, len_utf8_bounds}
use Rattle.lines.specs.Texts.{line_of}
use Rattle.lines.proofs.writers.write_line.Goals as goal

pub push-requires : goal.push-requires
push-requires c = search (rules, length-encode, len_utf8_bounds)

pub loop-number-init : goal.loop-number-init
loop-number-init c = search (rules, length-encode, len_utf8_bounds)

pub returns : goal.returns
unfolding line_of
returns c = search (rules, take_all)
