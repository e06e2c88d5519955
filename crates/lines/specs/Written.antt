-- What writing a text at the front of lent output answers and leaves. Assumes nothing.
use Rattle.std.specs.Prelude.{◌≡◌, ℕ, ◌<◌, ◌≤◌, cond, List, length, take, drop, Ok, Err, Result, nat_lt}
use Rattle.lines.specs.declared.refusal.Refusal.{Refusal}
use Rattle.lines.specs.declared.refusal.Refusal.TheVariants.{ShortOutput}

-- The text's length, or the refusal where the output is shorter than the text.
abbrev pub writing_answer : (text before : List ℕ) → Result ℕ Refusal
writing_answer text before = cond (nat_lt (length before) (length text)) (Err ShortOutput) (Ok (length text))

pub record Written (text before after : List ℕ) (result : Result ℕ Refusal) : Type 0 where
  pub answers : result ≡ writing_answer text before
  pub front_is_the_text : length text ≤ length before → take (length text) after ≡ text
  pub later_bytes_stay : length text ≤ length before → drop (length text) after ≡ drop (length text) before
  pub refused_leaves_all : length before < length text → after ≡ before
