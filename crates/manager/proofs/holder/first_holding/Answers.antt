use Rattle.std.proofs.Common.{◌∙◌, sym, refl}
use Rattle.manager.specs.Meaning.{is_holding}
use Rattle.manager.specs.declared.status.Status.TheVariants.{Idle}
use Rattle.manager.proofs.Seeking.{first_is_position}
use Rattle.manager.proofs.holder.first_holding.Goals as goal

pub returns : goal.returns
returns c = c.position_holding.ensures.is_the_position ∙ sym (first_is_position is_holding Idle refl c.args.status.now c.args.sites)
