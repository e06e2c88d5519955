-- A text written in full is `Written`, and what the answer tells of the output then.
use Rattle.std.proofs.Common.{◌≡◌, ℕ, ◌+◌, ◌-◌, ◌≤◌, List, ◌++◌, length, take, drop, Ok, Err, refl, ap, ◌∙◌, arith, rules}
use borrow.Rule.Slice.PartMut.{put_mid}
use Rattle.std.specs.List.{between}
use Rattle.std.proofs.lemmas.List.{take_at, drop_at, take-append-drop, take_rest, drop-drop, drop_all, append_assoc, append-nil, length-append, length-drop, length-take-le}
use Rattle.std.proofs.lemmas.Bool.Decides.{nat_tests}
use Rattle.lines.specs.declared.refusal.Refusal.{Refusal}
use Rattle.lines.specs.declared.refusal.Refusal.TheVariants.{ShortOutput}
use Rattle.lines.specs.Written.{Written}

module _ (text before after : List ℕ) where
  -- The text before what stood from its end on: it is written.
  pub written : (n : ℕ) → n ≡ length text → n ≤ length before → after ≡ text ++ drop n before → Written text before after (Ok n)
  written n whole room is = record {
    answers = grind (arith, nat_tests);
    front_is_the_text = λ _. ap (take (length text)) is ∙ take_at text (drop n before) (length text) refl;
    later_bytes_stay = λ _. ap (drop (length text)) is ∙ drop_at text (drop n before) (length text) refl ∙ ap (λ k. drop k before) whole;
    refused_leaves_all = λ short. absurd (omega arith);
  }

  -- An answer that is a length.
  pub written_length : (n : ℕ) → Written text before after (Ok n) → n ≡ length text
  written_length n w = let e = w.answers in grind (arith, nat_tests)

  pub written_room : (n : ℕ) → Written text before after (Ok n) → length text ≤ length before
  written_room n w = let e = w.answers in grind (arith, nat_tests)

  pub written_output : (n : ℕ) → Written text before after (Ok n) → after ≡ text ++ drop (length text) before
  written_output n w =
      let room = written_room n w in
      let parts = take-append-drop (length text) after in
      let front = w.front_is_the_text room in
      let later = w.later_bytes_stay room in
      cc

  -- An answer that is a refusal.
  pub refused_short : (e : Refusal) → Written text before after (Err e) → e ≡ ShortOutput
  refused_short e w = let r = w.answers in grind (arith, nat_tests)

  pub refused_output : (e : Refusal) → Written text before after (Err e) → after ≡ before
  refused_output e w = let r = w.answers in w.refused_leaves_all (grind (arith, nat_tests))

-- A text written further on, at the front of the part of the output that begins at a place: all of the output then.
module _ (output part text : List ℕ) (at n : ℕ) (within : at ≤ length output) (w : Written text (between at (length output) output) part (Ok n)) where
  abbrev after : List ℕ
  after = put_mid at (length output - at) output part

  pub written_at : after ≡ take at output ++ text ++ drop (at + n) output
  written_at =
      let rest = take_rest output at in
      let is = written_output text (between at (length output) output) part n w in
      let long = written_length text (between at (length output) output) part n w in
      let later = drop-drop n at output in
      let none = drop_all (length output - at) (drop at output) (search (rules, length-drop)) in
      let joins = append_assoc (take at output) text (drop (at + n) output) in
      cc (append-nil part)

  ends : length (take at output ++ text) ≡ at + n
  ends = let long = written_length text (between at (length output) output) part n w in search (rules, length-append, length-take-le)

  pub written_at_front : take (at + n) after ≡ take at output ++ text
  written_at_front = ap (take (at + n)) written_at ∙ take_at (take at output ++ text) (drop (at + n) output) (at + n) ends

  pub written_at_later : drop (at + n) after ≡ drop (at + n) output
  written_at_later = ap (drop (at + n)) written_at ∙ drop_at (take at output ++ text) (drop (at + n) output) (at + n) ends
