-- What pushes leave in a roll.
use Rattle.std.proofs.Common.{◌≡◌, ℕ, ◌+◌, false, List, [], ◌∷◌, ◌++◌, length, set, sym, refl, ap, ◌∙◌, append_assoc, append-nil, arith, length-append}
use Rattle.std.proofs.lemmas.Bool.{cond-false, ne_eqb}
use Rattle.roll.specs.Contents.{written, room_of, is_full}
use Rattle.roll.specs.Push.{pushed_contents, pushed_len, pushed_memory}
use Rattle.roll.specs.declared.list.Roll.{Roll}
use Rattle.broker.specs.Rolling.{laid, Rolled}

module _ {T : Type 0} where
  pub rolled_none : (a : Roll T) → Rolled a a []
  rolled_none a = record { contents = sym (append-nil (written a)); len = omega arith; memory = refl; lender = refl }

  pub rolled_push : (a b : Roll T) (x : T) → (room_of a ≡ 0 → ⊥) → written b ≡ pushed_contents a x → b.len ≡ pushed_len a →
      b.items.now ≡ pushed_memory a x → b.items.ghost_name ≡ a.items.ghost_name → Rolled a b (x ∷ [])
  rolled_push a b x some p q r s =
      let free : is_full a ≡ false = ne_eqb (room_of a) 0 some in
      record {
        contents = p ∙ cond-false (is_full a) (written a) (written a ++ (x ∷ [])) free;
        len = q ∙ cond-false (is_full a) a.len (a.len + 1) free;
        memory = r ∙ cond-false (is_full a) a.items.now (set a.items.now a.len x) free;
        lender = s;
      }

  laid_append : (memory : List T) (k : ℕ) (xs ys : List T) → laid (laid memory k xs) (k + length xs) ys ≡ laid memory k (xs ++ ys)
  laid_append memory k [] ys = ap (λ (n : ℕ). laid memory n ys) (omega arith)
  laid_append memory k (x ∷ xs) ys =
      ap (λ (n : ℕ). laid (laid (set memory k x) (k + 1) xs) n ys) (omega arith) ∙ laid_append (set memory k x) (k + 1) xs ys

  pub rolled_onward : (a b c : Roll T) (xs ys : List T) → Rolled a b xs → Rolled b c ys → Rolled a c (xs ++ ys)
  rolled_onward a b c xs ys p q = record {
    contents = q.contents ∙ ap (λ (w : List T). w ++ ys) p.contents ∙ append_assoc (written a) xs ys;
    len = omega (arith, p.len, q.len, length-append xs ys);
    memory = q.memory ∙ ap (λ (w : List T). laid w b.len ys) p.memory ∙ ap (λ (n : ℕ). laid (laid a.items.now a.len xs) n ys) p.len ∙ laid_append a.items.now a.len xs ys;
    lender = q.lender ∙ p.lender;
  }
