-- The first row of those that show a list, and the first of the list.
use Rattle.store_rows.proofs.Common.{◌≡◌, List, [], ◌∷◌, Some, None, slice_get, refl, sym, subst}
use Rattle.store_rows.specs.Listed.{AreShown}

pub none_first : {A X : Type 0} (R : A → X → Type 0) (items : List A) (rows : List X) → AreShown R items rows
    → None ≡ slice_get rows 0 → None ≡ slice_get items 0
none_first R [] rows all none = refl
none_first R (a ∷ items) [] all none = absurd all
none_first R (a ∷ items) (x ∷ rows) all none = absurd (cc)

pub some_first : {A X : Type 0} (R : A → X → Type 0) (items : List A) (rows : List X) (row : X) → AreShown R items rows
    → Some row ≡ slice_get rows 0
    → (a : A) × (Some a ≡ slice_get items 0) × R a row
some_first R [] [] row all some = absurd (cc)
some_first R [] (x ∷ rows) row all some = absurd all
some_first R (a ∷ items) [] row all some = absurd all
some_first R (a ∷ items) (x ∷ rows) row all some = let same : row ≡ x = cc in (a, refl, subst (R a) (sym same) all.0)
