-- Rows of the index of names, computed.
use Rattle.dbc_words.proofs.Common.{◌≡◌, true, false, ℕ, List, [], ◌∷◌, map, None, refl, codes}
use Rattle.dbc_words.specs.Named.{IsIndexBy, IsNameIndex, holds_name}
use Rattle.dbc_words.specs.declared.name_set.NameSet.{NameSet}

abbrev set : NameSet
set = record { names = record { keys = codes "Dash" ∷ codes "ECU" ∷ [] } }

in_the_set : map (holds_name set) (codes "ECU" ∷ codes "Dash" ∷ codes "EC" ∷ codes "ecu" ∷ [] ∷ []) ≡ true ∷ true
    ∷ false ∷ false ∷ false ∷ []
in_the_set = refl

-- a list without an index has one, whatever its names are
no_index : IsNameIndex (λ (n : List ℕ). n) (codes "ECU" ∷ codes "ECU" ∷ []) None
no_index = tt

-- no list comes of no list
no_list : IsIndexBy (λ n b. b) None None
no_list = refl
