-- The two ways that a call ends, and what the checks before it say.
use Rattle.std.proofs.Common.{◌≡◌, ℕ, ◌<◌, [], ◌∷◌, Some, None, Ok, Err, Option, Result, sym, refl, ap, ◌∙◌, arith}
use Rattle.std.proofs.lemmas.Bool.Decides.{nat_tests}
use Rattle.manager.specs.Answers.{answer, Call}
use Rattle.manager.specs.Meaning.{Meaning, limit}
use Rattle.manager.specs.Refusals.{refused, step_order}
use Rattle.manager.specs.declared.refusal.Refusal.{Refusal}
use Rattle.manager.specs.declared.refusal.Refusal.TheVariants.{NoSite, Worn}

ok_not_err : {A B : Type 0} (a : A) (b : B) → Ok a ≡ Err b → ⊥
ok_not_err a b e = let z : ◌≡◌ {A = ℕ} 0 1 = cc in omega arith

some_not_none : {A : Type 0} (a : A) → Some a ≡ None → ⊥
some_not_none a e = let z : ◌≡◌ {A = ℕ} 0 1 = cc in omega arith

-- An answer that is no refusal.
pub accepted : {A : Type 0} (o : Option Refusal) (a x : A) → Ok x ≡ answer o a → o ≡ None
accepted None a x e = refl
accepted (Some r) a x e = absurd (ok_not_err x r e)

-- The value of an answer matters only where it is no refusal.
pub same_answer : {A : Type 0} (o : Option Refusal) (a b : A) → (o ≡ None → a ≡ b) → answer o a ≡ answer o b
same_answer None a b e = ap Ok (e refl)
same_answer (Some r) a b e = refl

-- A call that is carried out.
pub done_call : {S A : Type 0} (o : Option Refusal) (done : Type 0) (value : A) (before after : S) (r : Result A Refusal) → o ≡ None → r ≡ Ok value → done → Call o done value before after r
done_call o done value before after r none ok did = record {
  answers = ok ∙ sym (ap (λ (p : Option Refusal). answer p value) none);
  leaves = λ e due. absurd (some_not_none e (sym due ∙ none));
  does = λ _. did;
}

-- A call that was carried out leaves what stands after it, whatever is done besides.
pub accepted_call : {S A : Type 0} (o : Option Refusal) (done : Type 0) (value x : A) (before between after : S) → Call o done value before between (Ok x) → Call o done value before after (Ok x)
accepted_call o done value x before between after call =
    let none = accepted o value x call.answers in
    record { answers = call.answers; leaves = λ e due. absurd (some_not_none e (sym due ∙ none)); does = call.does }

module _ (m : Meaning) (i : ℕ) where
  -- A call that got past the check before it, and was carried out, leaves what stands after it, whatever is done besides.
  pub named_call : {S A : Type 0} {o : Option Refusal} {done : Type 0} {value x : A} {before between after : S} →
      Ok (tt {0}) ≡ answer (refused (NoSite ∷ (Worn ∷ [])) m i) (tt {0}) → (m.age < limit → i < m.sites → Call o done value before between (Ok x)) →
      Call o done value before after (Ok x)
  named_call may call =
      let none = accepted (refused (NoSite ∷ (Worn ∷ [])) m i) (tt {0}) (tt {0}) may in
      accepted_call _ _ _ _ _ _ _ (call (grind (arith, nat_tests)) (grind (arith, nat_tests)))

  pub may_step : refused step_order m i ≡ None → (i < m.underway) × (m.age < limit)
  may_step none = (grind (arith, nat_tests), grind (arith, nat_tests))
