-- The classes of colours.
use Rattle.std.specs.Prelude.{ℕ, ◌+◌, ◌%◌, List, [], ◌∷◌, ◌++◌, Option, Some, None, codes, map}
use Rattle.page_parts.specs.declared.letters.Shade.{Shade}
use Rattle.page_parts.specs.declared.letters.Shade.TheVariants.{Live, Held, Free}

-- the class of a shade
abbrev pub shade_class : Shade → List ℕ
shade_class Live = codes "l"
shade_class Held = codes "h"
shade_class Free = codes "f"

-- the class of the colour of an index, of which there are eight; what has none is grey
abbrev pub tone_class : Option ℕ → List ℕ
tone_class (Some i) = codes "t" ++ (48 + i % 8) ∷ []
tone_class None = codes "tx"

abbrev pub class : Shade → Option ℕ → List ℕ
class shade index = shade_class shade ++ (codes " " ++ tone_class index)

-- of each colour, and of what has none
abbrev pub classes : Shade → List (List ℕ)
classes shade = map (λ i. class shade (Some i)) (0 ∷ 1 ∷ 2 ∷ 3 ∷ 4 ∷ 5 ∷ 6 ∷ 7 ∷ []) ++ class shade None ∷ []
