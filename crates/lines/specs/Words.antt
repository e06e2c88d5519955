-- The words in which a refusal is shown. Assumes nothing.
use Rattle.std.specs.Prelude.{ℕ, List, codes}
use Rattle.lines.specs.declared.refusal.Refusal.{Refusal}
use Rattle.lines.specs.declared.refusal.Refusal.TheVariants.{ShortOutput}

-- Why the line is not written.
abbrev pub refusal_in_words : Refusal → List ℕ
refusal_in_words ShortOutput = codes "the output is shorter than the line"
