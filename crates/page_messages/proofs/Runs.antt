-- Runs of neighbours that are alike, from the first one to the last.
use Rattle.page_messages.proofs.Common.{◌≡◌, ◌+◌, ◌<◌, ◌≤◌, ◌⊎◌, ◌∙◌, ℕ, zero, suc, Bool, true, false, List, [], ◌∷◌}
use Rattle.page_messages.proofs.Common.{inl, inr, refl, sym, ap, arith, Run}
use Rattle.page_messages.specs.Layouts.{joined, runs_of}

abbrev pub run : ℕ → ℕ → Run
run first last = record { first = first; last = last }

unlike : (n : ℕ) (runs : List Run) → joined false n runs ≡ run n n ∷ runs
unlike n [] = refl
unlike n (r ∷ runs) = refl

last_one : (n : ℕ) (is_like : Bool) → joined is_like n [] ≡ run n n ∷ []
last_one n true = refl
last_one n false = refl

alone : (n : ℕ) (is_like : Bool) (runs : List Run) → (is_like ≡ false) ⊎ (runs ≡ []) → joined is_like n runs
    ≡ run n n ∷ runs
alone n is_like runs (inl e) = ap (λ b. joined b n runs) e ∙ unlike n runs
alone n is_like runs (inr e) = ap (joined is_like n) e ∙ last_one n is_like ∙ ap (λ v. run n n ∷ v) (sym e)

-- no numbers
pub none : (alike : ℕ → ℕ → Bool) (n count : ℕ) → count ≡ 0 → runs_of alike n count ≡ []
unfolding runs_of
none alike n count e = ap (runs_of alike n) e

-- numbers that are alike one after another are a run, where the next one isn't like the last, or there is none
pub cut : (alike : ℕ → ℕ → Bool) (a n m count last next : ℕ) → count ≡ suc (n + m) → last ≡ a + n → next ≡ last + 1
    → ((k : ℕ) → a ≤ k → k < last → alike k (k + 1) ≡ true) → (alike last (last + 1) ≡ false) ⊎ (m ≡ 0)
    → runs_of alike a count ≡ run a last ∷ runs_of alike next m
unfolding runs_of
cut alike a zero m count last next e f g so end =
    let many : count ≡ suc m = omega arith in
    let here : a ≡ last = omega arith in
    let after : a + 1 ≡ next = omega arith in
    let ends : (alike a (a + 1) ≡ false) ⊎ (runs_of alike (a + 1) m ≡ []) =
    elim end [
      | inl h ↦ inl (ap (λ k. alike k (k + 1)) here ∙ h)
      | inr h ↦ inr (none alike (a + 1) m h)
    ] in
    ap (runs_of alike a) many ∙ alone a (alike a (a + 1)) (runs_of alike (a + 1) m) ends
    ∙ ap (λ k. run a k ∷ runs_of alike (a + 1) m) here ∙ ap (λ k. run a last ∷ runs_of alike k m) after
cut alike a (suc n) m count last next e f g so end =
    let many : count ≡ suc (suc (n + m)) = omega arith in
    let there : last ≡ (a + 1) + n = omega arith in
    let first : a < last = omega arith in
    let rest = cut alike (a + 1) n m (suc (n + m)) last next refl there g
    (λ k low high. so k (omega arith) high) end in
    ap (runs_of alike a) many
    ∙ ap (λ b. joined b a (runs_of alike (a + 1) (suc (n + m)))) (so a (omega arith) first)
    ∙ ap (joined true a) rest
