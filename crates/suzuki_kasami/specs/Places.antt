-- The site that the token is at or is on its way to. Assumes nothing.
use Rattle.std.specs.Prelude.{ℕ}
use Rattle.suzuki_rules.specs.declared.Token.{Token}
use Rattle.suzuki_rules.specs.declared.Token.TheVariants.{At, Sent}

abbrev pub place : Token → ℕ
place (At t) = t
place (Sent t) = t
