-- Where the token is, where it is passed to, and whom a site knows to wait.
use Rattle.std.proofs.Common.{◌≡◌, ℕ, Bool, false, cond, ◌&&◌, eqb, List, [], ◌∷◌, Some, None, sym, refl, ap, arith}
use Rattle.std.proofs.Common.{Option, OnSome, IfNone, remove, slice_get}
use Rattle.std.specs.List.{list_any}
use Rattle.std.proofs.lemmas.Bool.Decides.{nat_tests}
use Rattle.arrayvec.specs.ArrayVec.{ArrayVec}
use Rattle.suzuki_rules.specs.State.{State, has_token, queued}
use Rattle.suzuki_rules.specs.Rules.{token_after, rest}
use Rattle.suzuki_rules.specs.declared.Token.{Token}
use Rattle.suzuki_rules.specs.declared.Token.TheVariants.{At, Sent}

pub token_at : (s : State) (t i : ℕ) → s.token ≡ At t → eqb t i ≡ has_token s i
token_at s t i e = ap (λ k. elim k [ At x ↦ eqb x i | Sent x ↦ false ]) (sym e)

-- The token is sent on, or not, for alike reasons.
pub sent_alike : {A : Type 0} (x : A) {y y' : A} {has has' idle idle' waits waits' : Bool} →
    has ≡ has' → idle ≡ idle' → waits ≡ waits' → y ≡ y' →
    cond (has && (idle && waits)) x y ≡ cond (has' && (idle' && waits')) x y'
sent_alike x p q r e = rw (p, q, r, e) refl

-- A list is searched for a number.
pub queued_is : (x : ℕ) (q : List ℕ) → list_any (λ y. eqb y x) q ≡ queued q x
queued_is x [] = refl
queued_is x (y ∷ q) = grind (arith, nat_tests, queued_is x q)

pub passed_to : (q : List ℕ) (t : Token) → elim (slice_get q 0) [ Some j ↦ Sent j | None ↦ t ] ≡ token_after q t
passed_to [] t = refl
passed_to (j ∷ q) t = refl

-- What is left of a list whose first is taken out, if it has one.
left_over : (q left : List ℕ) (first : Option ℕ) → first ≡ slice_get q 0 → OnSome first (left ≡ remove q 0) → IfNone first (left ≡ q) → left ≡ rest q
left_over [] left None e taken kept = kept
left_over [] left (Some j) e taken kept = cc
left_over (k ∷ q) left (Some j) e taken kept = taken
left_over (k ∷ q) left None e taken kept = cc

same_items : (q left : ArrayVec ℕ) (first : Option ℕ) → IfNone first (left ≡ q) → IfNone first (left.items ≡ q.items)
same_items q left None kept = ap (λ (v : ArrayVec ℕ). v.items) kept
same_items q left (Some j) kept = kept

pub popped : (q left : ArrayVec ℕ) (first : Option ℕ) →
    first ≡ slice_get q.items 0 → OnSome first (left.items ≡ remove q.items 0) → IfNone first (left ≡ q) → left.items ≡ rest q.items
popped q left first e taken kept = left_over q.items left.items first e taken (same_items q left first kept)
