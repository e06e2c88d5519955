-- Answers that are refusals and answers that are not.
use Rattle.std.proofs.Common.{◌≡◌, ℕ, eqb, List, [], ◌∷◌, ◌++◌, Some, None, Ok, Err, Option, sym, refl, arith}
use Rattle.std.proofs.lemmas.Bool.{eqb-false}
use Rattle.manager.specs.Answers.{answer}
use Rattle.manager.specs.Meaning.{Meaning}
use Rattle.manager.specs.Refusals.{tried}
use Rattle.manager.specs.declared.refusal.Refusal.{Refusal}
use Rattle.manager.specs.declared.refusal.Refusal.TheVariants.{RollFull}
use Rattle.history.proofs.Orders.{not_due, tried_last}

pub ok_not_err : {A B : Type 0} (a : A) (b : B) → Ok a ≡ Err b → ⊥
ok_not_err a b e = let z : ◌≡◌ {A = ℕ} 0 1 = cc in omega arith

-- An answer that is no refusal.
pub accepted : {A : Type 0} (o : Option Refusal) (a x : A) → Ok x ≡ answer o a → o ≡ None
accepted None a x e = refl
accepted (Some r) a x e = absurd (ok_not_err x r e)

pub accepted_value : {A : Type 0} (o : Option Refusal) (a x : A) → Ok x ≡ answer o a → x ≡ a
accepted_value None a x e = cc
accepted_value (Some r) a x e = absurd (ok_not_err x r e)

-- One that is.
pub refusing : {A : Type 0} (o : Option Refusal) (a : A) (r : Refusal) → Err r ≡ answer o a → o ≡ Some r
refusing None a r e = absurd (ok_not_err a r (sym e))
refusing (Some x) a r e = cc

-- A roll that does not refuse an ask or a step has room.
pub has_room : (rs : List Refusal) (m : Meaning) (k room : ℕ) → Ok (tt {0}) ≡ answer (tried (rs ++ (RollFull ∷ [])) m k room) (tt {0}) → room ≡ 0 → ⊥
has_room rs m k room may full =
    let none = accepted (tried (rs ++ (RollFull ∷ [])) m k room) (tt {0}) (tt {0}) may in
    let last = (not_due (eqb room 0) RollFull None (tried_last rs (RollFull ∷ []) m k room none)).0 in
    eqb-false room 0 last full
