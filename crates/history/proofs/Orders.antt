-- A refusal that is tried last, when it is not due, leaves those before it.
use Rattle.std.proofs.Common.{◌≡◌, ℕ, Bool, true, false, cond, List, [], ◌∷◌, ◌++◌, Some, None, Option, sym, refl, ◌∙◌}
use Rattle.std.proofs.lemmas.Bool.{cond-true, cond-false}
use Rattle.std.proofs.lemmas.Option.{none-some}
use Rattle.manager.specs.Meaning.{Meaning}
use Rattle.manager.specs.Refusals.{due, tried}
use Rattle.manager.specs.declared.refusal.Refusal.{Refusal}

-- a chain of tests that comes to None
pub not_due : (b : Bool) (r : Refusal) (o : Option Refusal) → cond b (Some r) o ≡ None → (b ≡ false) × (o ≡ None)
not_due true r o e = absurd (none-some r (sym e))
not_due false r o e = (refl, e)

pub tried_front : (rs ts : List Refusal) (m : Meaning) (k room : ℕ) → tried (rs ++ ts) m k room ≡ None → tried rs m k room ≡ None
tried_front [] ts m k room e = refl
tried_front (r ∷ rs) ts m k room e =
    let p = not_due (due r m k room) r (tried (rs ++ ts) m k room) e in
    cond-false (due r m k room) (Some r) (tried rs m k room) p.0 ∙ tried_front rs ts m k room p.1

pub tried_last : (rs ts : List Refusal) (m : Meaning) (k room : ℕ) → tried (rs ++ ts) m k room ≡ None → tried ts m k room ≡ None
tried_last [] ts m k room e = e
tried_last (r ∷ rs) ts m k room e = tried_last rs ts m k room (not_due (due r m k room) r (tried (rs ++ ts) m k room) e).1

-- Refusals of which none is due are passed over,
pub tried_none : (rs ts : List Refusal) (m : Meaning) (k room : ℕ) → tried rs m k room ≡ None → tried (rs ++ ts) m k room ≡ tried ts m k room
tried_none [] ts m k room e = refl
tried_none (r ∷ rs) ts m k room e =
    let p = not_due (due r m k room) r (tried rs m k room) e in
    cond-false (due r m k room) (Some r) (tried (rs ++ ts) m k room) p.0 ∙ tried_none rs ts m k room p.1

-- and one that is due is given, whatever is tried after it.
pub tried_some : (rs ts : List Refusal) (m : Meaning) (k room : ℕ) (x : Refusal) → tried rs m k room ≡ Some x → tried (rs ++ ts) m k room ≡ Some x
tried_some [] ts m k room x e = absurd (none-some x e)
tried_some (r ∷ rs) ts m k room x e = go (due r m k room) refl e (λ f. tried_some rs ts m k room x f)
  where
    go : (b : Bool) → due r m k room ≡ b → cond b (Some r) (tried rs m k room) ≡ Some x → (tried rs m k room ≡ Some x → tried (rs ++ ts) m k room ≡ Some x) → cond (due r m k room) (Some r) (tried (rs ++ ts) m k room) ≡ Some x
    go true p e more = cond-true (due r m k room) (Some r) (tried (rs ++ ts) m k room) p ∙ e
    go false p e more = cond-false (due r m k room) (Some r) (tried (rs ++ ts) m k room) p ∙ more e
