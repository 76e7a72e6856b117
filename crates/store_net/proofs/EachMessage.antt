-- Live messages put together one after the other, of the rows of their heads.
use Rattle.store_net.proofs.Common.{◌≡◌, ℕ, ◌<◌, zero, suc, List, [], ◌∷◌, ◌++◌, length, take, get_or, refl, sym, ap}
use Rattle.store_net.proofs.Common.{subst, arith, AllByRecursion, AreShown}

module _ {A X : Type 0} (R : A → X → Type 0) (P : A → Type 0) where
  pub record IsNext (items : List A) (at : ℕ) (row : X) : Type 0 where
    pub item : A
    pub next : take (suc at) items ≡ take at items ++ item ∷ []
    pub shown : R item row
    pub holds : P item

  pub shown_next : (items : List A) (rows : List X) (at : ℕ) (row : X) → AreShown R items rows → AllByRecursion P items
      → at < length rows → row ≡ get_or rows at row → IsNext items at row
  shown_next [] [] at row shown all within is = absurd (omega (arith, within))
  shown_next [] (r ∷ rows) at row shown all within is = absurd shown
  shown_next (a ∷ items) [] at row shown all within is = absurd shown
  shown_next (a ∷ items) (r ∷ rows) zero row shown all within is =
      record { item = a; next = refl; shown = subst (R a) (sym is) shown.0; holds = all.0 }
  shown_next (a ∷ items) (r ∷ rows) (suc at) row shown all within is =
      let low : at < length rows = omega (arith, within) in
      let rest = shown_next items rows at row shown.1 all.1 low is in
      record { item = rest.item; next = ap (λ l. a ∷ l) rest.next; shown = rest.shown; holds = rest.holds }

pub count_shown : {A X : Type 0} (R : A → X → Type 0) (items : List A) (rows : List X) → AreShown R items rows
    → length rows ≡ length items
count_shown R [] [] all = refl
count_shown R [] (x ∷ rows) all = absurd all
count_shown R (a ∷ items) [] all = absurd all
count_shown R (a ∷ items) (x ∷ rows) all = ap suc (count_shown R items rows all.1)
