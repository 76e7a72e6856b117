-- The first answer of a search.
use Rattle.bitlayout.proofs.Common.{◌≡◌, ℕ, true, false, ◌<◌, Option, Some, None, refl, sym, subst, ◌∙◌, inl, inr, ◌⊎◌}
use Rattle.bitlayout.proofs.Common.{arith, zero, suc, cases_lt, false≢true, true≢false, is_some}
use Rattle.bitlayout.specs.First.{first_answer}

-- the search after one more question, by the answer so far
after_none : {A : Type 0} (o p : Option A) → o ≡ None → elim o [ Some a ↦ Some a | None ↦ p ] ≡ p
after_none None p e = refl
after_none (Some a) p e = cc

after_some : {A : Type 0} (o p : Option A) (a : A) → o ≡ Some a → elim o [ Some a ↦ Some a | None ↦ p ] ≡ Some a
after_some None p a e = cc
after_some (Some b) p a e = e

-- no answer before the end
pub none_if_none : {A : Type 0} (question : ℕ → Option A) (end : ℕ) → ((k : ℕ) → k < end → question k ≡ None)
    → first_answer question end ≡ None
unfolding first_answer
none_if_none question zero none = refl
none_if_none question (suc n) none = after_none _ _ (none_if_none question n (λ k below. none k (omega arith)))
    ∙ none n (omega arith)

-- an answer with none before it
pub first_at : {A : Type 0} (question : ℕ → Option A) (end i : ℕ) (a : A) → i < end → question i ≡ Some a
    → ((k : ℕ) → k < i → question k ≡ None) → first_answer question end ≡ Some a
unfolding first_answer
first_at question zero i a below at none = absurd (omega arith)
first_at question (suc n) i a below at none = elim (cases_lt i n) [
  | inl earlier ↦ after_some _ _ a (first_at question n i a earlier at none)
  | inr last ↦
      let here : i ≡ n = omega arith in
      after_none _ _ (none_if_none question n (λ k less. none k (omega arith)))
      ∙ subst (λ m. question m ≡ Some a) here at
]

split_none : {A : Type 0} (o p : Option A) → ◌≡◌ {A = Option A} (elim o [ Some a ↦ Some a | None ↦ p ]) None
    → (o ≡ None) × (p ≡ None)
split_none None p e = (refl, e)
split_none (Some a) p e = cc

-- what the first answer implies
pub none_before : {A : Type 0} (question : ℕ → Option A) (end : ℕ) → first_answer question end ≡ None → (k : ℕ)
    → k < end → question k ≡ None
unfolding first_answer
none_before question zero e k below = absurd (omega arith)
none_before question (suc n) e k below =
    let parts = split_none (first_answer question n) (question n) e in
    elim (cases_lt k n) [
      | inl earlier ↦ none_before question n parts.0 k earlier
      | inr last ↦ let here : n ≡ k = omega arith in subst (λ m. question m ≡ None) here parts.1
    ]

pub record IsFirstAnswer {A : Type 0} (question : ℕ → Option A) (end : ℕ) (a : A) : Type 0 where
  pub index : ℕ
  pub below : index < end
  pub at : question index ≡ Some a
  pub none : (k : ℕ) → k < index → question k ≡ None

split_some : {A : Type 0} (o p : Option A) (a : A) → ◌≡◌ {A = Option A} (elim o [ Some a ↦ Some a | None ↦ p ]) (Some a)
    → (o ≡ Some a) ⊎ ((o ≡ None) × (p ≡ Some a))
split_some None p a e = inr (refl, e)
split_some (Some b) p a e = inl e

pub found_first : {A : Type 0} (question : ℕ → Option A) (end : ℕ) (a : A) → first_answer question end ≡ Some a
    → IsFirstAnswer question end a
unfolding first_answer
found_first question zero a e = cc
found_first question (suc n) a e = elim (split_some (first_answer question n) (question n) a e) [
  | inl earlier ↦ let f = found_first question n a earlier in
      record { index = f.index; below = omega (arith, f.below); at = f.at; none = f.none }
  | inr (none, here) ↦ record { index = n; below = omega arith; at = here; none = none_before question n none }
]

-- the answer of a question, by whether there is one
pub some_at : {A : Type 0} (question : ℕ → Option A) (end i : ℕ) (o : Option A) → i < end → question i ≡ o
    → is_some o ≡ true → ((k : ℕ) → k < i → question k ≡ None) → o ≡ first_answer question end
some_at question end i None below at some none = absurd (false≢true some)
some_at question end i (Some a) below at some none = sym (first_at question end i a below at none)

pub none_at : {A : Type 0} (o : Option A) → is_some o ≡ false → o ≡ None
none_at None none = refl
none_at (Some a) none = absurd (true≢false none)

pub some_or_none : {A : Type 0} (o : Option A) → is_some o ≡ true → o ≡ None → ⊥
some_or_none None some none = false≢true some
some_or_none (Some a) some none = cc
