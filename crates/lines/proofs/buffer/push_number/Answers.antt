use Rattle.std.proofs.Common.{rules}
use Rattle.std.proofs.lemmas.List.{drop_at, length-append}
use Rattle.lines.proofs.Decimals.{law_of_decimal}
use Rattle.lines.proofs.buffer.push_number.Goals as goal

pub returns-clause-digits_read_back_as_the_number : goal.returns-clause-digits_read_back_as_the_number
returns-clause-digits_read_back_as_the_number c = law_of_decimal _ _ (search rules) (search (rules, drop_at, length-append))
