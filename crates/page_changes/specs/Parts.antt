-- Neighbours in a list that are alike, put together.
use Rattle.std.specs.Prelude.{Bool, List, [], ◌∷◌, if◌then◌else◌}

-- one more at the front: in the first part, if it is alike the first one there
abbrev pub with_alike : {X : Type 0} → (X → X → Bool) → X → List (List X) → List (List X)
with_alike same x [] = (x ∷ []) ∷ []
with_alike same x ([] ∷ parts) = (x ∷ []) ∷ parts
with_alike same x ((y ∷ ys) ∷ parts) =
    if same x y then (x ∷ y ∷ ys) ∷ parts else (x ∷ []) ∷ (y ∷ ys) ∷ parts

-- the list, cut where neighbours aren't alike
abbrev pub parts_by : {X : Type 0} → (X → X → Bool) → List X → List (List X)
parts_by same [] = []
parts_by same (x ∷ xs) = with_alike same x (parts_by same xs)
