-- What an array is that `from_fn` made, by a closure that answers a function of the index.
use Rattle.std.proofs.Common.{◌≡◌, ℕ, zero, suc, ◌+◌, ◌<◌, ◌≤◌, List, get_or, ◌∙◌, inl, inr, subst, arith}
use Rattle.std.proofs.lemmas.Bool.{cases_eq}
use Rattle.std.specs.Array.{IsFromFnResultFrom}
use Rattle.std.specs.Fn.{Called}
use denote.Param.Members.{Mut}

module _ {F B : Type 0} (g : Mut F (ℕ × Unit {0}) B) (f : F) (value : ℕ → B) (ys : List B) where
  -- A call answers the value, and leaves the closure as it was.
  abbrev pub Answers : Type 0
  Answers = (i : ℕ) (y : B) (q : F) → Called g f (i, tt) y q → (q ≡ f) × (y ≡ value i)

  pub made_at : Answers → (i n : ℕ) → IsFromFnResultFrom g f ys i n → (k : ℕ) (d : B) → i ≤ k → k < i + n → get_or ys k d ≡ value k
  made_at answers i zero made k d low high = absurd (omega arith)
  made_at answers i (suc n) (q, y, at, call, rest) k d low high =
      let a = answers i y q call in
      elim (cases_eq k i) [
        | inl e ↦ rw e (at.1 d ∙ a.1)
        | inr ne ↦ made_at answers (i + 1) n (subst (λ p. IsFromFnResultFrom g p ys (i + 1) n) a.0 rest) k d (omega arith) (omega arith)
      ]
