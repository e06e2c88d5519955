-- A step, the coming of a REQUEST or of a REPLY, keeps a state sound and does what a step has to do.
use Rattle.std.proofs.Common.{ℕ, Option}
use Rattle.manager.specs.Effects.{Stepped}
use Rattle.ricart_rules.specs.Invariant.{Sound}
use Rattle.ricart_rules.specs.Reading.{meaning_of}
use Rattle.ricart_rules.specs.Rules.{Delivered, request_comes, reply_comes}
use Rattle.ricart_rules.specs.State.{State}
use Rattle.ricart_rules.proofs.Reply.{replied_sound, replied_stepped}
use Rattle.ricart_rules.proofs.Request.{received_sound, received_stepped}

pub step_lawful : (s : State) (k : ℕ) (grant : Option ℕ) (s' : State) → Sound s → Delivered s k grant s' → Sound s' × Stepped (meaning_of s) grant (meaning_of s')
step_lawful s k grant s' v (request_comes a b ha hb sent place) = (received_sound s v a b ha hb sent, received_stepped s v a b ha hb sent)
step_lawful s k grant s' v (reply_comes a b ha hb sent place) = (replied_sound s v a b ha hb sent, replied_stepped s v a b ha hb sent)
