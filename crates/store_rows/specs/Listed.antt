-- Rows that stand for the items of a list, whatever the order in which a table has them.
use Rattle.std.specs.Prelude.{List, [], ◌∷◌, IsPermutation}
use Rattle.std.specs.List.Sorted.{IsStrictlySortedBy}
use Rattle.std.specs.declared.cmp.Ordering.{Ordering}

-- each item by its row, in order
abbrev pub AreShown : {A X : Type 0} → (A → X → Type 0) → List A → List X → Type 0
AreShown R [] [] = Unit {0}
AreShown R [] (x ∷ xs) = ⊥
AreShown R (a ∷ items) [] = ⊥
AreShown R (a ∷ items) (x ∷ xs) = R a x × AreShown R items xs

-- the rows, put in order, stand for the items
pub record AreListed {A X : Type 0} (by : X → X → Ordering) (R : A → X → Type 0) (rows : List X) (items : List A) : Type
    0 where
  pub found : List X
  pub same : IsPermutation rows found
  pub ascending : IsStrictlySortedBy by found
  pub each : AreShown R items found
