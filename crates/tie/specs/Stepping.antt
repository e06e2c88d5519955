-- What each of the things under way does where a tie carries it out, and what it answers. Assumes nothing.
use Rattle.std.specs.Prelude.{◌≡◌, ℕ, None, Ok, Option, Result}
use Rattle.manager.specs.Kinds.{Kind}
use Rattle.manager.specs.Refusals.{refused, step_order}
use Rattle.manager.specs.declared.refusal.Refusal.{Refusal}
use Rattle.gateway.specs.Automaton.{last, Link}
use Rattle.gateway.specs.Moves.{Passes, move_refused}
use Rattle.tie.specs.Places.{own}

-- A sound manager that does not refuse takes the step, and the tie answers `told` of the site that was granted there.
abbrev pub StepsPart : {S : Type 0} → Kind S → (told : Option ℕ → Option ℕ) (before : S) (k : ℕ) (after : S) → Result (Option ℕ) Refusal → Type 0
StepsPart kind told before k after result =
    kind.sound before → refused step_order (kind.meaning before) k ≡ None →
    (granted : Option ℕ) × (result ≡ Ok (told granted)) × kind.steps before k granted after

-- A site of an island is told by the tie's number, unless it is the gateway.
abbrev pub StepsIsland : {I : Type 0} → Kind I → (offset : ℕ) (before : I) (k : ℕ) (after : I) → Result (Option ℕ) Refusal → Type 0
StepsIsland kind offset before = StepsPart kind (own (last (kind.meaning before)) offset) before

-- Whoever holds at the outer manager is a gateway, and no site of the tie.
abbrev pub StepsOuter : {O : Type 0} → Kind O → (before : O) (k : ℕ) (after : O) → Result (Option ℕ) Refusal → Type 0
StepsOuter kind = StepsPart kind (λ granted. None)

module _ {I O : Type 0} (ki : Kind I) (ko : Kind O) (post : ℕ) (before after : Link I O) where
  -- The gateway's move, and why it is refused, if it is.
  abbrev Passed : Type 0
  Passed = Passes ki ko post before.island before.gate before.outer after.island after.gate after.outer

  abbrev refusal : Option Refusal
  refusal = move_refused before.gate (ki.meaning before.island) (last (ki.meaning before.island)) (ko.meaning before.outer) post

  -- Between sound managers, the gateway makes its move, if it is not refused, and no site of the tie is granted.
  abbrev pub MovesGateway : Result (Option ℕ) Refusal → Type 0
  MovesGateway result = ki.sound before.island → ko.sound before.outer → refusal ≡ None → (result ≡ Ok None) × Passed
