-- A step carries out the message that stands where it was found.
use Rattle.std.proofs.Common.{◌≡◌, ℕ, ◌<◌, ◌≤◌, None, Option, sym, subst, arith}
use Rattle.counting.specs.Cells.{StandsAt}
use Rattle.counting.specs.Sums.{one_if}
use Rattle.counting.specs.declared.table.Spot.{Spot}
use Rattle.ricart_rules.specs.Rules.{requests, messages, received, replied, served, Delivered, request_comes, reply_comes}
use Rattle.ricart_rules.specs.State.{State, is_requested, is_replied}
use Rattle.ricart_rules.specs.declared.Stage.{Stage}
use Rattle.ricart_rules.specs.declared.Stage.TheVariants.{Requested, Replied}
use Rattle.ricart_rules.proofs.Facts.{requests_most, replies_most}

requested_of : (x : Stage) → 0 < one_if (is_requested x) → x ≡ Requested
requested_of x h = grind arith

replied_of : (x : Stage) → 0 < one_if (is_replied x) → x ≡ Replied
replied_of x h = grind arith

module _ (s : State) (k : ℕ) (m : Spot) (found : StandsAt (messages s) s.sites k m) (after : State) where
  pub request_delivered : m.earlier < requests s m.row m.column → after ≡ received s m.row m.column → Delivered s k None after
  request_delivered first e =
      let one = requests_most s m.row m.column in
      let sent : s.stage m.row m.column ≡ Requested = requested_of (s.stage m.row m.column) (omega arith) in
      subst (Delivered s k None) (sym e) (request_comes m.row m.column found.row found.column sent (omega (arith, found.place)))

  module _ (grant : Option ℕ) (later : requests s m.row m.column ≤ m.earlier) where
    pub reply_delivered : after ≡ replied s m.row m.column → grant ≡ served s m.row m.column → Delivered s k grant after
    reply_delivered e g =
        let one = replies_most s m.row m.column in
        let within = found.within in
        let sent : s.stage m.column m.row ≡ Replied = replied_of (s.stage m.column m.row) (omega arith) in
        let comes = reply_comes m.row m.column found.row found.column sent (omega (arith, found.place)) in
        subst (λ o. Delivered s k o after) (sym g) (subst (Delivered s k (served s m.row m.column)) (sym e) comes)
