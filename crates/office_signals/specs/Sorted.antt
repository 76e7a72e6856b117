-- The order in which the places of a message are searched.
use Rattle.std.specs.Prelude.{◌≡◌, ℕ, ◌+◌, map, [], ◌∷◌}
use Rattle.std.proofs.Common.{refl}
use Rattle.bitlayout.specs.declared.place.Mux.{Mux}
use Rattle.bitlayout.specs.declared.place.Mux.TheVariants.{Always, Multiplexor, Under}
use Rattle.bitlayout.specs.declared.place.Place.{Place}

-- those that are present in every message come first, the others by their value
abbrev pub mux_rank : Mux → ℕ
mux_rank Always = 0
mux_rank Multiplexor = 0
mux_rank (Under v) = v + 1

abbrev pub place_rank : Place → ℕ
place_rank p = mux_rank p.mux

ranks : map mux_rank (Under 7 ∷ Always ∷ Under 0 ∷ Multiplexor ∷ []) ≡ 8 ∷ 0 ∷ 1 ∷ 0 ∷ []
ranks = refl
