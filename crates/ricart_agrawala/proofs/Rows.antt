-- The stages, when a row of them is written.
use Rattle.std.proofs.Common.{◌≡◌, ℕ, ◌<◌, Bool, true, false, cond, not, ◌&&◌, eqb, ltb, List, [], length, get_or, set, sym, refl, ap, ◌∙◌}
use Rattle.std.proofs.lemmas.Bool.{eqb-true}
use Rattle.counting.proofs.Arrays.{read_row}
use Rattle.ricart_rules.specs.Rules.{with_others}
use Rattle.ricart_rules.specs.declared.Stage.{Stage}
use Rattle.ricart_rules.specs.declared.Stage.TheVariants.{Unasked}

nested : {A : Type 0} (here near : Bool) (x y z : A) → (here ≡ true → y ≡ z) → cond here (cond near x y) z ≡ cond (here && near) x z
nested true near x y z same = ap (cond near x) (same refl)
nested false near x y z same = refl

module _ (t : List (List Stage)) (n i : ℕ) (x : Stage) (row : List Stage) (within : i < length t) where
  abbrev stage : ℕ → ℕ → Stage
  stage a b = get_or (get_or t a []) b Unasked

  -- The row has one stage for each other site.
  abbrev pub Written : Type 0
  Written = (j : ℕ) → get_or row j Unasked ≡ cond (ltb j n && not (eqb j i)) x (stage i j)

  pub others_written : Written → (a b : ℕ) → get_or (get_or (set t i row) a []) b Unasked ≡ with_others n i x stage a b
  others_written written a b =
      read_row t i row Unasked within a b
      ∙ ap (λ y. cond (eqb a i) y (stage a b)) (written b)
      ∙ nested (eqb a i) (ltb b n && not (eqb b i)) x (stage i b) (stage a b) (λ here. ap (λ c. stage c b) (sym (eqb-true a i here)))
