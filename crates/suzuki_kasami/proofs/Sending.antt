-- REQUESTs as flags: which are set.
use Rattle.std.proofs.Common.{◌≡◌, Bool, true, false, cond, ◌&&◌, Some, None, ◌∙◌}
use Rattle.std.proofs.lemmas.Bool.{cond-false, and_right}

pub no_link : {A : Type 0} (near flag : Bool) (v : A) → flag ≡ false → cond (near && flag) (Some v) None ≡ None
no_link near flag v e = cond-false (near && flag) (Some v) None (and_right near flag e)

-- A flag that is set in some places of a row that had none.
pub others_alone : (here flag old : Bool) → flag ≡ cond here true old → old ≡ false → flag ≡ here
others_alone true flag old e none = e
others_alone false flag old e none = e ∙ none
