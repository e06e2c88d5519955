-- What each call of a tie does, in calls of its parts. Assumes nothing.
use Rattle.std.specs.Prelude.{◌≡◌, ℕ, ◌+◌, ◌-◌, ◌<◌, ◌≤◌, None, Option}
use Rattle.counting.specs.Sums.{one_if}
use Rattle.manager.specs.Kinds.{Kind}
use Rattle.gateway.specs.Automaton.{last}
use Rattle.gateway.specs.Moves.{Passes}
use Rattle.tie_rules.specs.Reading.{border, left_side, lifted}
use Rattle.tie_rules.specs.Sides.{due}
use Rattle.tie_rules.specs.State.{Tie, next}
use Rattle.gateway.specs.declared.state.Gateway.{Gateway}
use Rattle.gateway.specs.declared.state.Gateway.TheVariants.{Out, In}

-- A call that names site i of the tie is a call of the site's island, by what such a call does there; all else stays.
pub data AtSite {L R O : Type 0} (kl : Kind L) (kr : Kind R) (ko : Kind O) (does_left : L → ℕ → L → Type 0) (does_right : R → ℕ → R → Type 0) (t : Tie L R O) (i : ℕ) (t' : Tie L R O) : Type 0 where
  at_left : (l : L) → i < border kl kr ko t → does_left t.left i l → t' ≡ next t l t.right t.outer t.left_gate t.right_gate → AtSite kl kr ko does_left does_right t i t'
  at_right : (r : R) → border kl kr ko t ≤ i → does_right t.right (i - border kl kr ko t) r → t' ≡ next t t.left r t.outer t.left_gate t.right_gate → AtSite kl kr ko does_left does_right t i t'

module _ {L R O : Type 0} (kl : Kind L) (kr : Kind R) (ko : Kind O) where
  abbrev pub Asks : Tie L R O → ℕ → Tie L R O → Type 0
  Asks = AtSite kl kr ko kl.asks kr.asks

  abbrev pub Frees : Tie L R O → ℕ → Tie L R O → Type 0
  Frees = AtSite kl kr ko kl.frees kr.frees

  -- To park at a site parks its island there with the gateway in, the other island at its gateway, and the outer manager
  -- at the site's side.
  pub data Parks (t : Tie L R O) (g : ℕ) (t' : Tie L R O) : Type 0 where
    parks_left : (l : L) (r : R) (o : O) → g < border kl kr ko t → kl.parks t.left g l → kr.parks t.right (last (kr.meaning t.right)) r → ko.parks t.outer 0 o → t' ≡ record { left = l; right = r; outer = o; left_gate = In; right_gate = Out; age = 0 } → Parks t g t'
    parks_right : (l : L) (r : R) (o : O) → border kl kr ko t ≤ g → kl.parks t.left (border kl kr ko t) l → kr.parks t.right (g - border kl kr ko t) r → ko.parks t.outer 1 o → t' ≡ record { left = l; right = r; outer = o; left_gate = Out; right_gate = In; age = 0 } → Parks t g t'

  -- Things under way are the left island's, the right's, the outer manager's, the left gateway's due move and the
  -- right's, numbered in that order.
  abbrev pub before_right : Tie L R O → ℕ
  before_right t = (kl.meaning t.left).underway

  abbrev pub before_outer : Tie L R O → ℕ
  before_outer t = before_right t + (kr.meaning t.right).underway

  abbrev pub before_left_move : Tie L R O → ℕ
  before_left_move t = before_outer t + (ko.meaning t.outer).underway

  abbrev pub before_right_move : Tie L R O → ℕ
  before_right_move t = before_left_move t + one_if (due (left_side kl kr ko t) (ko.meaning t.outer))

  -- A step carries out thing k in its part; all else stays. A move of a gateway, or a step that makes it hold, is no grant.
  pub data Steps (t : Tie L R O) (k : ℕ) (grant : Option ℕ) (t' : Tie L R O) : Type 0 where
    left_steps : (g : Option ℕ) (l : L) → k < before_right t → kl.steps t.left k g l → grant ≡ lifted (border kl kr ko t) 0 g → t' ≡ next t l t.right t.outer t.left_gate t.right_gate → Steps t k grant t'
    right_steps : (j : ℕ) (g : Option ℕ) (r : R) → k ≡ before_right t + j → j < (kr.meaning t.right).underway → kr.steps t.right j g r → grant ≡ lifted (last (kr.meaning t.right)) (border kl kr ko t) g → t' ≡ next t t.left r t.outer t.left_gate t.right_gate → Steps t k grant t'
    outer_steps : (j : ℕ) (g : Option ℕ) (o : O) → k ≡ before_outer t + j → j < (ko.meaning t.outer).underway → ko.steps t.outer j g o → grant ≡ None → t' ≡ next t t.left t.right o t.left_gate t.right_gate → Steps t k grant t'
    left_moves : (l : L) (gate : Gateway) (o : O) → k ≡ before_left_move t → Passes kl ko 0 t.left t.left_gate t.outer l gate o → grant ≡ None → t' ≡ next t l t.right o gate t.right_gate → Steps t k grant t'
    right_moves : (r : R) (gate : Gateway) (o : O) → k ≡ before_right_move t → Passes kr ko 1 t.right t.right_gate t.outer r gate o → grant ≡ None → t' ≡ next t t.left r o t.left_gate gate → Steps t k grant t'
