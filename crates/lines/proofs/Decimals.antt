-- The law of a decimal text: `decimal` of std keeps it, and no other text does.
use Rattle.std.proofs.Common.{◌≡◌, ℕ, ◌^◌, ◌<◌, List, length, get_or, decimal, sym, ap, ◌∙◌, subst, inl, inr, arith, rules}
use Rattle.std.specs.Int.{IsInRange}
use Rattle.std.proofs.lemmas.Fmt.{digits_decimal, digits_value-decimal, decimal_nonempty, decimal_digit, first_decimal, decimal-digits_value}
use Rattle.std.proofs.lemmas.Str.Parse.{IsNumeralModel, numerals_by_fold, tells_by_index}
use Rattle.std.proofs.lemmas.Bool.{cases_lt}
use Rattle.lines.specs.Decimals.{DecimalOf, read_after}

abbrev DigitsOnly : List ℕ → Type 0
DigitsOnly text = (place : ℕ) → place < length text → IsInRange 48 57 (get_or text place 0)

-- The law's words say what std's say of numerals.
own : IsNumeralModel DigitsOnly (read_after 0)
own = numerals_by_fold DigitsOnly tells_by_index read_after (search rules)

pub law_of_decimal : (n : ℕ) (text : List ℕ) → n < 2 ^ 64 → text ≡ decimal n → DecimalOf n text
law_of_decimal n text small is = subst (DecimalOf n) (sym is) (record {
  has_a_digit = decimal_nonempty n small;
  digits_only = digits_decimal own n small;
  reads_back = digits_value-decimal own n small;
  no_leading_zero = λ zero_first. elim (cases_lt 0 n) [
    | inl some ↦ absurd (omega (arith, first_decimal n some small))
    | inr none ↦ ap length (decimal_digit n (omega arith))
  ];
})

pub decimal_of_law : (n : ℕ) (text : List ℕ) → n < 2 ^ 64 → DecimalOf n text → text ≡ decimal n
decimal_of_law n text small law =
    let reads = law.reads_back in
    sym (decimal-digits_value own text law.digits_only law.has_a_digit law.no_leading_zero (rw reads small)) ∙ ap decimal reads
