-- A move that is due, made as its state says, is a move of the rules.
use Rattle.std.proofs.Common.{◌≡◌, ℕ, true, ltb, Some, Option, Result, sym, refl, ap, ◌∙◌, subst}
use Rattle.std.proofs.lemmas.Bool.{and_parts, cond-true}
use Rattle.manager.specs.Answers.{answer}
use Rattle.manager.specs.Kinds.{Kind}
use Rattle.manager.specs.Meaning.{Meaning}
use Rattle.manager.specs.declared.refusal.Refusal.{Refusal}
use Rattle.manager.specs.declared.refusal.Refusal.TheVariants.{NoThing}
use Rattle.manager.proofs.Statuses.{holds_of}
use Rattle.gateway.specs.Automaton.{last, awaited, due, Link, link}
use Rattle.gateway.specs.Moves.{Passes, asks_outer, frees_island, asks_island, frees_outer, call_refused, Goes, GoesOrRefuses, AdvancesOrRefuses}
use Rattle.gateway.specs.declared.state.Gateway.{Gateway}
use Rattle.gateway.specs.declared.state.Gateway.TheVariants.{Out, Coming, In, Leaving}

module _ {I O : Type 0} (ki : Kind I) (ko : Kind O) (post : ℕ) (p : I) (o : O) (after : Link I O) where
  abbrev m : Meaning
  m = ki.meaning p

  abbrev n : Meaning
  n = ko.meaning o

  abbrev PassesFrom : Gateway → Type 0
  PassesFrom gate = Passes ki ko post p gate o after.island after.gate after.outer

  -- What a move leaves, where it changes the outer manager, or the island.
  at_outer : (gate g : Gateway) → after.gate ≡ g → after.island ≡ p → Passes ki ko post p gate o p g after.outer → PassesFrom gate
  at_outer gate g is same pass =
      subst (λ (q : I). Passes ki ko post p gate o q after.gate after.outer) (sym same) (subst (λ (h : Gateway). Passes ki ko post p gate o p h after.outer) (sym is) pass)

  in_island : (gate g : Gateway) → after.gate ≡ g → after.outer ≡ o → Passes ki ko post p gate o after.island g o → PassesFrom gate
  in_island gate g is same pass =
      subst (λ (q : O). Passes ki ko post p gate o after.island after.gate q) (sym same) (subst (λ (h : Gateway). Passes ki ko post p gate o after.island h o) (sym is) pass)

  goes_passes : (gate : Gateway) → awaited gate m (last m) n post ≡ true → Goes ki ko post (link gate p o) after gate → PassesFrom gate
  goes_passes Out came (is, same, did) = at_outer Out Coming is same (asks_outer refl came did)
  goes_passes Coming came (is, same, did) = in_island Coming In is same (frees_island refl (holds_of _ came) did)
  goes_passes In came (is, same, did) = in_island In Leaving is same (asks_island refl came did)
  goes_passes Leaving came (is, same, did) = at_outer Leaving Out is same (frees_outer refl (holds_of _ came) did)

  pub due_advances : (gate : Gateway) (result : Result (Unit {0}) Refusal) → due gate m (last m) n post ≡ true → GoesOrRefuses ki ko post (link gate p o) after result → AdvancesOrRefuses ki ko post (link gate p o) after result
  due_advances gate result now_due goes sound outer_sound =
      let alike = cond-true (due gate m (last m) n post) (call_refused gate m (last m) n post) (Some NoThing) now_due in
      let move = goes sound outer_sound in
      record {
        answers = move.answers ∙ sym (ap (λ (r : Option Refusal). answer r tt) alike);
        leaves_gateway = λ r due. move.leaves_gateway r (sym alike ∙ due);
        leaves_island = λ r due. move.leaves_island r (sym alike ∙ due);
        leaves_outer = λ r due. move.leaves_outer r (sym alike ∙ due);
        does = λ none. goes_passes gate (and_parts (awaited gate m (last m) n post) (ltb post n.sites) now_due).0 (move.does (sym alike ∙ none));
      }
