-- A step carries out the thing that was found.
use Rattle.std.proofs.Common.{◌≡◌, ℕ, ◌<◌, ◌≤◌, Bool, true, false, cond, ◌&&◌, ltb, [], get_or, Some, None, sym, refl, ap, subst, arith}
use Rattle.counting.specs.Cells.{StandsAt}
use Rattle.counting.specs.Tables.{before, total}
use Rattle.counting.specs.declared.table.Spot.{Spot}
use Rattle.suzuki_rules.specs.Reading.{meaning_of, tokens_sent}
use Rattle.suzuki_rules.specs.Rules.{received, arrived, requests, Delivered, request_comes, token_comes}
use Rattle.suzuki_rules.specs.State.{State}
use Rattle.suzuki_rules.specs.declared.Token.TheVariants.{Sent}
use Rattle.suzuki_kasami.specs.Reading.{state_of}
use Rattle.suzuki_kasami.specs.declared.state.SuzukiKasami.{SuzukiKasami}

-- A link that has something has the REQUEST, and no more.
link_full : (here : Bool) (number earlier : ℕ) → earlier < elim (cond here (Some number) None) [ Some w ↦ 1 | None ↦ 0 ] →
    (cond here (Some number) None ≡ Some number) × (earlier ≡ 0)
link_full true number earlier h = (refl, omega arith)
link_full false number earlier h = absurd (omega arith)

pub request_delivered : (m : SuzukiKasami) (k : ℕ) (spot : Spot) (after : State) →
    StandsAt (requests (state_of m)) m.island.sites k spot →
    after ≡ received (state_of m) spot.row spot.column (get_or (get_or m.known spot.row []) spot.row 0) →
    Delivered (state_of m) k None after
request_delivered m k spot after found e =
    let number = get_or (get_or m.known spot.row []) spot.row 0 in
    let full = link_full (ltb spot.column m.island.sites && get_or (get_or m.requests spot.row []) spot.column false) number spot.earlier found.within in
    let place : before (requests (state_of m)) m.island.sites spot.row spot.column ≡ k = omega (arith, found.place, full.1) in
    subst (Delivered (state_of m) k None) (sym e) (request_comes spot.row spot.column number found.row found.column full.0 place)

-- The token comes last.
pub token_delivered : (s : State) (k t : ℕ) (after : State) → s.token ≡ Sent t → total (requests s) s.sites ≤ k → k < (meaning_of s).underway → after ≡ arrived s t → Delivered s k (Some t) after
token_delivered s k t after sent passed within e =
    let one : tokens_sent s.token ≡ 1 = ap tokens_sent sent in
    let last : total (requests s) s.sites ≡ k = omega arith in
    subst (Delivered s k (Some t)) (sym e) (token_comes t sent last)
