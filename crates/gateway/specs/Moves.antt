-- What a move of a gateway does: one call in its island or at the outer manager, and its next state. Assumes nothing.
use Rattle.std.specs.Prelude.{◌≡◌, ℕ, true, cond, Some, None, Option, Result}
use Rattle.manager.specs.Answers.{answer}
use Rattle.manager.specs.Kinds.{Kind}
use Rattle.manager.specs.Meaning.{Meaning}
use Rattle.manager.specs.Refusals.{refused, ask_order, free_order}
use Rattle.manager.specs.declared.refusal.Refusal.{Refusal}
use Rattle.manager.specs.declared.refusal.Refusal.TheVariants.{NoThing}
use Rattle.manager.specs.declared.status.Status.TheVariants.{Holding}
use Rattle.gateway.specs.Automaton.{last, due, Link}
use Rattle.gateway.specs.declared.state.Gateway.{Gateway}
use Rattle.gateway.specs.declared.state.Gateway.TheVariants.{Out, Coming, In, Leaving}

-- A due move of a gateway, whose island is p, whose outer site is post of o, and what it leaves of all three.
pub data Passes {I O : Type 0} (ki : Kind I) (ko : Kind O) (post : ℕ) (p : I) (gate : Gateway) (o : O) : I → Gateway → O → Type 0 where
  -- called in its island, a gateway that is out asks at the outer manager and is coming
  asks_outer : {o' : O} → gate ≡ Out → (ki.meaning p).called (last (ki.meaning p)) ≡ true → ko.asks o post o' → Passes ki ko post p gate o p Coming o'
  -- holding there, it frees in its island and is in
  frees_island : {p' : I} → gate ≡ Coming → (ko.meaning o).status post ≡ Holding → ki.frees p (last (ki.meaning p)) p' → Passes ki ko post p gate o p' In o
  -- called there, it asks in its island and is leaving
  asks_island : {p' : I} → gate ≡ In → (ko.meaning o).called post ≡ true → ki.asks p (last (ki.meaning p)) p' → Passes ki ko post p gate o p' Leaving o
  -- holding in its island, it frees at the outer manager and is out
  frees_outer : {o' : O} → gate ≡ Leaving → (ki.meaning p).status (last (ki.meaning p)) ≡ Holding → ko.frees o post o' → Passes ki ko post p gate o p Out o'

-- Why the one call of a move is refused, if it is.
abbrev pub call_refused : Gateway → (island : Meaning) (own : ℕ) (outer : Meaning) (post : ℕ) → Option Refusal
call_refused Out island own outer post = refused ask_order outer post
call_refused Coming island own outer post = refused free_order island own
call_refused In island own outer post = refused ask_order island own
call_refused Leaving island own outer post = refused free_order outer post

-- A move that is not due is refused, as a step is that names nothing under way; one that is due, as its call is.
abbrev pub move_refused : Gateway → (island : Meaning) (own : ℕ) (outer : Meaning) (post : ℕ) → Option Refusal
move_refused gate island own outer post = cond (due gate island own outer post) (call_refused gate island own outer post) (Some NoThing)

-- A move that may be refused, and what it leaves.
pub record MoveCall {I O : Type 0} (refusal : Option Refusal) (done : Type 0) (before after : Link I O) (result : Result (Unit {0}) Refusal) : Type 0 where
  -- it answers the refusal, if there is one
  pub answers : result ≡ answer refusal tt
  -- refused, it leaves the gateway, the island and the outer manager as found
  pub leaves_gateway : (r : Refusal) → refusal ≡ Some r → after.gate ≡ before.gate
  pub leaves_island : (r : Refusal) → refusal ≡ Some r → after.island ≡ before.island
  pub leaves_outer : (r : Refusal) → refusal ≡ Some r → after.outer ≡ before.outer
  -- else it does this
  pub does : refusal ≡ None → done

module _ {I O : Type 0} (ki : Kind I) (ko : Kind O) (post : ℕ) (before after : Link I O) where
  abbrev island : Meaning
  island = ki.meaning before.island

  abbrev outer : Meaning
  outer = ko.meaning before.outer

  -- The move that a gateway makes from each state, due or not: its call, its next state, and the other manager as it was.
  abbrev pub Goes : Gateway → Type 0
  Goes Out = (after.gate ≡ Coming) × (after.island ≡ before.island) × ko.asks before.outer post after.outer
  Goes Coming = (after.gate ≡ In) × (after.outer ≡ before.outer) × ki.frees before.island (last island) after.island
  Goes In = (after.gate ≡ Leaving) × (after.outer ≡ before.outer) × ki.asks before.island (last island) after.island
  Goes Leaving = (after.gate ≡ Out) × (after.island ≡ before.island) × ko.frees before.outer post after.outer

  -- Between sound managers, the gateway makes its move, or is refused as its call is.
  abbrev pub GoesOrRefuses : Result (Unit {0}) Refusal → Type 0
  GoesOrRefuses result =
      ki.sound before.island → ko.sound before.outer → MoveCall (call_refused before.gate island (last island) outer post) (Goes before.gate) before after result

  -- Between sound managers, the gateway makes the move that is due, or is refused: because none is, or as its call is.
  abbrev pub AdvancesOrRefuses : Result (Unit {0}) Refusal → Type 0
  AdvancesOrRefuses result =
      ki.sound before.island → ko.sound before.outer → MoveCall (move_refused before.gate island (last island) outer post) (Passes ki ko post before.island before.gate before.outer after.island after.gate after.outer) before after result
