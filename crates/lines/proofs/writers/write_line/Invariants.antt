use Rattle.std.proofs.Common.{◌≡◌, ◌+◌, ◌*◌, ◌≤◌, ◌++◌, length, take, encode_utf8}
use Rattle.std.specs.List.{flat_map}
use Rattle.lines.specs.Limits.{longest_field}
use Rattle.lines.specs.Texts.{spaced}
use Rattle.lines.proofs.writers.write_line.Given as goal

-- The letter and the numbers passed so far are held.
abbrev pub invariant-loop-number : goal.invariant-loop-number
invariant-loop-number l =
    (l.line.bytes ≡ encode_utf8 l.fn.letter ++ flat_map spaced (take l.number-index l.numbers)) × (length l.line.bytes ≤ 4 + longest_field * l.number-index)
