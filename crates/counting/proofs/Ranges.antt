-- What `any` answers when it goes through the numbers below n.
use Rattle.std.proofs.Common.{◌≡◌, ℕ, zero, suc, Bool, true, false, ◌||◌, [], ◌∷◌, refl, ap, ◌∙◌, arith}
use Rattle.std.specs.Fn.{Called}
use Rattle.std.specs.Iterator.{ChecksAny}
use Rattle.std.specs.List.{list_any, range_with_len}
use Rattle.std.proofs.lemmas.Iterator.{YieldsList-from_range}
use Rattle.std.proofs.lemmas.Iterator.Search.{any_from_yields_List}
use Rattle.std.proofs.lemmas.List.Folds.{list_any-append}
use Rattle.std.specs.declared.ops.Range.{Range}
use Rattle.std.proofs.iter.Yields.{nat_range_steps}
use denote.Param.Members.{Mut}
use Rattle.counting.specs.Tests.{any}
use Rattle.counting.proofs.Sums.{range_more}

or_false : (a b : Bool) → (a || (b || false)) ≡ (a || b)
or_false a true = refl
or_false a false = refl

in_range : (test : ℕ → Bool) (n : ℕ) → list_any test (range_with_len 0 n) ≡ any test n
in_range test zero = refl
in_range test (suc n) =
    ap (list_any test) (range_more 0 n n (omega arith))
    ∙ list_any-append test (range_with_len 0 n) (n ∷ [])
    ∙ ap (λ b. b || (test n || false)) (in_range test n)
    ∙ or_false (any test n) (test n)

module _ {F : Type 0} (g : Mut F (ℕ × Unit {0}) Bool) (test : ℕ → Bool) (n : ℕ) (f : F) (r : Bool) (u : Range ℕ) where
  -- The closure computes the test, and stays as it is.
  abbrev pub Computes : Type 0
  Computes = (x : ℕ) (b : Bool) (q : F) → Called g f (x, tt) b q → (q ≡ f) × (b ≡ test x)

  pub any_in_range : ChecksAny nat_range_steps g (record { start = 0; end = n }) f r u → Computes → r ≡ any test n
  any_in_range ran tests =
      any_from_yields_List test u f r ran (YieldsList-from_range 0 n n refl (omega arith)) tests ∙ in_range test n
