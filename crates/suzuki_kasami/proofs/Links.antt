-- What the links read as after REQUESTs are sent, and after one is received.
use Rattle.std.proofs.Common.{◌≡◌, ℕ, ◌<◌, max, Bool, true, false, cond, not, ◌&&◌, eqb, ltb, List, [], length, get_or, set, Some, None, Option, sym, refl, ap, ◌∙◌, ap₂, inl, inr, arith}
use Rattle.std.proofs.lemmas.List.{get_or-set_same, get_or-set_other}
use Rattle.std.proofs.lemmas.Bool.{eqb-true, eq-eqb, ne_eqb, cond-false, and_left, not-false, cases_eq}
use Rattle.counting.specs.Tables.{upd2}
use Rattle.counting.proofs.Tables.{upd2_same, upd2_row, upd2_column}
use Rattle.counting.proofs.Arrays.{read_set2}
use Rattle.suzuki_kasami.specs.Reading.{link_of}

one_row : (near apart : Bool) (v : ℕ) (old : Option ℕ) → (near ≡ false → old ≡ None) → (apart ≡ false → old ≡ None) → cond (near && (near && apart)) (Some v) None ≡ cond (near && apart) (Some v) old
one_row true true v old far loop = refl
one_row true false v old far loop = sym (loop refl)
one_row false apart v old far loop = sym (far refl)

module _ (n : ℕ) (flags : List (List Bool)) (known : List (List ℕ)) (i : ℕ) (flagged : i < length flags) (kept : i < length known) (wide : i < length (get_or known i [])) where
  -- A new row of REQUESTs, with the sender's new number.
  pub links_sent : (row : List Bool) (v : ℕ) → ((j : ℕ) → get_or row j false ≡ (ltb j n && not (eqb j i))) → link_of n flags known i i ≡ None → (a b : ℕ) → link_of n (set flags i row) (set known i (set (get_or known i []) i v)) a b ≡ cond (eqb a i && (ltb b n && not (eqb b i))) (Some v) (link_of n flags known a b)
  links_sent row v others loop a b = elim (cases_eq a i) [
    | inl e ↦
        let flag : get_or (get_or (set flags i row) a []) b false ≡ (ltb b n && not (eqb b i)) = rw (e, get_or-set_same flags i row [] flagged) (others b) in
        let number : get_or (get_or (set known i (set (get_or known i []) i v)) a []) a 0 ≡ v = rw (e, get_or-set_same known i (set (get_or known i []) i v) [] kept) (get_or-set_same (get_or known i []) i v 0 wide) in
        let same : link_of n flags known a b ≡ link_of n flags known i b = ap (λ x. link_of n flags known x b) e in
        ap₂ (λ f w. cond (ltb b n && f) (Some w) None) flag number
        ∙ one_row (ltb b n) (not (eqb b i)) v (link_of n flags known a b) (λ far. cond-false _ _ _ (and_left _ _ far)) (λ here. same ∙ ap (link_of n flags known i) (eqb-true b i (not-false (eqb b i) here)) ∙ loop)
        ∙ sym (ap (λ t. cond (t && (ltb b n && not (eqb b i))) (Some v) (link_of n flags known a b)) (eq-eqb a i e))
    | inr ne ↦
        ap₂ (λ xs ys. cond (ltb b n && get_or xs b false) (Some (get_or ys a 0)) None) (get_or-set_other flags i a row [] ne) (get_or-set_other known i a (set (get_or known i []) i v) [] ne)
        ∙ sym (ap (λ t. cond (t && (ltb b n && not (eqb b i))) (Some v) (link_of n flags known a b)) (ne_eqb a i ne))
  ]

cleared : (here near flag : Bool) (v : ℕ) → cond (near && cond here false flag) (Some v) None ≡ cond here None (cond (near && flag) (Some v) None)
cleared true true flag v = refl
cleared true false flag v = refl
cleared false near flag v = refl

module _ (n : ℕ) (flags : List (List Bool)) (known : List (List ℕ)) (a b : ℕ) (sender : a < length flags) (receiver : b < length (get_or flags a [])) (kept : b < length known) (wide : a < length (get_or known b [])) where
  abbrev numbers : ℕ → ℕ → ℕ
  numbers x y = get_or (get_or known x []) y 0

  -- The receiver keeps the larger number, which changes no site's own.
  own_kept : (v : ℕ) → v ≡ max (numbers b a) (numbers a a) → (x : ℕ) → get_or (get_or (set known b (set (get_or known b []) a v)) x []) x 0 ≡ numbers x x
  own_kept v e x =
      read_set2 known b a v 0 kept wide x x
      ∙ elim (cases_eq x b) [
        | inl p ↦ elim (cases_eq x a) [
          | inl q ↦
              let heard : numbers b a ≡ numbers x x = ap₂ numbers (sym p) (sym q) in
              let own : numbers a a ≡ numbers x x = ap₂ numbers (sym q) (sym q) in
              ap₂ (upd2 numbers b a v) p q ∙ upd2_same numbers b a v ∙ omega arith
          | inr ne ↦ upd2_column numbers b a v x x ne
        ]
        | inr ne ↦ upd2_row numbers b a v x x ne
      ]

  -- The REQUEST is under way no longer.
  pub links_received : (v : ℕ) → v ≡ max (get_or (get_or known b []) a 0) (get_or (get_or known a []) a 0) → (x y : ℕ) → link_of n (set flags a (set (get_or flags a []) b false)) (set known b (set (get_or known b []) a v)) x y ≡ upd2 (link_of n flags known) a b None x y
  links_received v e x y =
      ap₂ (λ f w. cond (ltb y n && f) (Some w) None) (read_set2 flags a b false false sender receiver x y) (own_kept v e x)
      ∙ cleared (eqb x a && eqb y b) (ltb y n) (get_or (get_or flags x []) y false) (numbers x x)
