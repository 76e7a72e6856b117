-- A search finds something exactly where one passes the test.
use Rattle.dbc_sheet.proofs.Common.{◌≡◌, Bool, true, false, List, [], ◌∷◌, Some, refl, is_some, list_any}
use Rattle.std.specs.Prelude.{find, ◌||◌, cond}

pub found_if_any : {X : Type 0} (p : X → Bool) (xs : List X) → is_some (find p xs) ≡ list_any p xs
found_if_any p [] = refl
found_if_any p (x ∷ xs) =
    elim (p x) as (λ b. is_some (cond b (Some x) (find p xs)) ≡ (b || list_any p xs)) [
      | true ↦ refl
      | false ↦ found_if_any p xs
    ]
