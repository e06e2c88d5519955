-- A call that names a site is the call of the site's island: refused as it is there, and carried out as it is there.
use Rattle.std.proofs.Common.{◌≡◌, ℕ, ◌<◌, List, None, Option, Result, sym, refl, ap, ◌∙◌, subst, arith}
use Rattle.manager.specs.Kinds.{Kind, Obeys}
use Rattle.manager.specs.Answers.{answer, Call}
use Rattle.manager.specs.Meaning.{limit}
use Rattle.manager.specs.Refusals.{refused, ask_order}
use Rattle.manager.specs.declared.refusal.Refusal.{Refusal}
use Rattle.tie_rules.specs.Invariant.{Sound}
use Rattle.tie_rules.specs.Reading.{border, meaning_of}
use Rattle.tie_rules.specs.Rules.{AtSite, at_left, at_right}
use Rattle.tie_rules.specs.State.{Tie, next}
use Rattle.tie_rules.proofs.Questions.{status_left, status_right}
use Rattle.tie_rules.proofs.Refused.{RefusedAlike, refused_left, refused_right}
use Rattle.tie.specs.Places.{PlacedAt}
use Rattle.tie.specs.declared.sites.Place.TheVariants.{Left, Right}
use Rattle.tie.proofs.Answering.{same_answer}

-- A call of a part, told as a call of the whole.
told : {P S A : Type 0} {o o' : Option Refusal} {done done' : Type 0} {a a' : A} {p p' : P} {s s' : S} {r : Result A Refusal} → o' ≡ o →
    (p' ≡ p → s' ≡ s) → (done → done') → (o ≡ None → done → a ≡ a') → Call o done a p p' r → Call o' done' a' s s' r
told {o} {a} {a'} alike same does value call = record {
  answers = call.answers ∙ same_answer o a a' (λ none. value none (call.does none)) ∙ sym (ap (λ (q : Option Refusal). answer q a') alike);
  leaves = λ e due. same (call.leaves e (sym alike ∙ due));
  does = λ none. does (call.does (sym alike ∙ none));
}

-- The tie with another left island, or another right one, one call later.
abbrev with_left : {L R O : Type 0} → Tie L R O → L → Tie L R O
with_left t l = next t l t.right t.outer t.left_gate t.right_gate

abbrev with_right : {L R O : Type 0} → Tie L R O → R → Tie L R O
with_right t r = next t t.left r t.outer t.left_gate t.right_gate

module _ {L R O : Type 0} {kl : Kind L} {kr : Kind R} {ko : Kind O} {t : Tie L R O} {i j : ℕ} where
  -- A call that goes by an order of refusals, does one thing to a left island and another to a right one, and answers a,
  -- which at the tie is a'.
  module _ (v : Sound kl kr ko t) (young : t.age < limit) (within : i < (meaning_of kl kr ko t).sites) (order : List Refusal)
      (alike : RefusedAlike order) (does_left : L → ℕ → L → Type 0) (does_right : R → ℕ → R → Type 0) {S A : Type 0} {s s' : S} {a a' : A}
      {result : Result A Refusal} where
    pub left_told : {l : L} → PlacedAt (border kl kr ko t) i (Left j) → (l ≡ t.left → s' ≡ s) →
        (refused order (kl.meaning t.left) j ≡ None → does_left t.left j l → a ≡ a') →
        Call (refused order (kl.meaning t.left) j) (does_left t.left j l) a t.left l result →
        Call (refused order (meaning_of kl kr ko t) i) (AtSite kl kr ko does_left does_right t i (with_left t l)) a' s s' result
    left_told {l} (h, e) same =
        told (refused_left kl kr ko t v young order alike i within h ∙ ap (refused order (kl.meaning t.left)) (sym e)) same
        (λ did. at_left l h (subst (λ (n : ℕ). does_left t.left n l) e did) refl)

    pub right_told : {r : R} → PlacedAt (border kl kr ko t) i (Right j) → (r ≡ t.right → s' ≡ s) →
        (refused order (kr.meaning t.right) j ≡ None → does_right t.right j r → a ≡ a') →
        Call (refused order (kr.meaning t.right) j) (does_right t.right j r) a t.right r result →
        Call (refused order (meaning_of kl kr ko t) i) (AtSite kl kr ko does_left does_right t i (with_right t r)) a' s s' result
    right_told {r} (h, e) same =
        told (refused_right kl kr ko t v young order alike i within h ∙ ap (refused order (kr.meaning t.right)) (sym e)) same
        (λ did. at_right r h (subst (λ (n : ℕ). does_right t.right n r) e did) refl)

module _ {L R O : Type 0} (kl : Kind L) (kr : Kind R) (ko : Kind O) (t : Tie L R O) (i j : ℕ) where
  -- The status that the island answers is the tie's.
  pub left_status : Obeys kl → kl.sound t.left → {l : L} → PlacedAt (border kl kr ko t) i (Left j) → refused ask_order (kl.meaning t.left) j ≡ None →
      kl.asks t.left j l → (kl.meaning l).status j ≡ (meaning_of kl kr ko (with_left t l)).status i
  left_status laws sound {l} (h, e) none did =
      let kept = (laws.asking t.left l j sound none did).1.sites in
      ap (kl.meaning l).status e ∙ sym (status_left kl kr ko (with_left t l) i (omega (arith, kept)))

  pub right_status : {r : R} → PlacedAt (border kl kr ko t) i (Right j) → (kr.meaning r).status j ≡ (meaning_of kl kr ko (with_right t r)).status i
  right_status {r} (h, e) = ap (kr.meaning r).status e ∙ sym (status_right kl kr ko (with_right t r) i h)
