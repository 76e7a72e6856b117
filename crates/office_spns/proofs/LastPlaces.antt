-- The places in the last of some sheets that has a number.
use Rattle.std.proofs.Common.{◌≡◌, ℕ, ◌∙◌, Some, None, List, [], ◌∷◌, cond, map, refl, sym, true, false}
use Rattle.std.specs.Prelude.{filter, unwrap_or}
use Rattle.std.specs.List.{last_or}
use Rattle.dbc_sheet.specs.declared.sheet.Sheet.{Sheet}
use Rattle.office_spns.specs.Spns.{SpnPlace, has_spn, places}

-- those in the last of the sheets that has the number, and these where none has it
abbrev pub places_else : ℕ → List Sheet → List SpnPlace → List SpnPlace
places_else n sheets found = unwrap_or (last_or None (map (places n) (filter (has_spn n) sheets))) found

last_after : {X : Type 0} (a b : X) (xs : List X) → unwrap_or (last_or (Some a) xs) b ≡ unwrap_or (last_or None xs) a
last_after a b [] = refl
last_after a b (x ∷ xs) = last_after x b xs ∙ sym (last_after x a xs)

pub places_in_next : (n : ℕ) (s : Sheet) (sheets : List Sheet) (found : List SpnPlace)
    → places_else n (s ∷ sheets) found ≡ places_else n sheets (cond (has_spn n s) (places n s) found)
places_in_next n s sheets found =
    elim (has_spn n s) as (λ b. unwrap_or (last_or None
    (map (places n) (cond b (s ∷ filter (has_spn n) sheets) (filter (has_spn n) sheets)))) found
    ≡ places_else n sheets (cond b (places n s) found)) [
      | true ↦ last_after (places n s) found (map (places n) (filter (has_spn n) sheets))
      | false ↦ refl
    ]
