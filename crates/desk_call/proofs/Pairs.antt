-- A list that isn't two items is no pair.
use Rattle.desk_call.proofs.Common.{◌≡◌, List, [], ◌∷◌, None, length, refl, items_view, Value}
use Rattle.std.proofs.Common.{◌≢◌}
use Rattle.desk_call.specs.Body.{pair_bytes}

pub no_pair : (values : List Value) → length values ≢ 2 → None ≡ pair_bytes (items_view values)
no_pair [] h = refl
no_pair (a ∷ []) h = refl
no_pair (a ∷ b ∷ []) h = absurd (h refl)
no_pair (a ∷ b ∷ c ∷ ds) h = refl
