-- The positions that places have, as masks.
use Rattle.std.specs.Prelude.{◌≡◌, ℕ, ◌<◌, ◌↔◌, ◌⊎◌, Bool, true, not, List, Any, IfSome}
use Rattle.bitlayout.specs.declared.layout.Layout.{Layout}
use Rattle.bitlayout.specs.declared.mask.Mask.{Mask}
use Rattle.bitlayout.specs.declared.mask.Strip.{Strip}
use Rattle.bitlayout.specs.declared.place.Mux.{Mux}
use Rattle.bitlayout.specs.declared.place.Mux.TheVariants.{Under}
use Rattle.bitlayout.specs.declared.place.Place.{Place}
use Rattle.bitlayout.specs.declared.taken.Taken.{Taken}
use Rattle.bitlayout.specs.Bits.{IsBit, SharesBit}
use Rattle.bitlayout.specs.Mask.{mask_end, Has, StripHas}
use Rattle.bitlayout.specs.Mux.{is_under, meets}

-- the strip has the signal's positions
unfoldable pub IsStripOf : Strip → Layout → Type 0
IsStripOf strip layout = (q : ℕ) → StripHas strip q ↔ IsBit layout q

-- the mask has the positions below its end of the places whose marks pass the test
unfoldable pub Covers : Mask → (Mux → Bool) → List Place → Type 0
Covers mask test places = (q : ℕ)
    → Has mask q ↔ ((q < mask_end) × Any (λ place. (test place.mux ≡ true) × IsBit place.layout q) places)

abbrev pub is_any : Mux → Bool
is_any mux = true

abbrev pub is_everywhere : Mux → Bool
is_everywhere mux = not (is_under mux)

abbrev pub is_present_at : ℕ → Mux → Bool
is_present_at value mux = meets mux (Under value)

-- the position is that of a bit of a place under the value
abbrev pub UnderAt : ℕ → ℕ → Place → Type 0
UnderAt value q place = (place.mux ≡ Under value) × IsBit place.layout q

-- the mask has what another has, and the positions below its end of the places under the value
abbrev pub CoversMore : Mask → Mask → ℕ → List Place → Type 0
CoversMore always mask value places = (q : ℕ)
    → Has mask q ↔ (Has always q ⊎ ((q < mask_end) × Any (UnderAt value q) places))

-- the masks are those of the places
pub record IsTakenBy (taken : Taken) (places : List Place) : Type 0 where
  -- all of them
  pub all : Covers taken.all is_any places
  -- those present at every value
  pub always : Covers taken.always is_everywhere places
  -- those present at the value that the third mask is for
  pub present : IfSome taken.value (λ value. Covers taken.present (is_present_at value) places)
  -- each value that one of them depends on is below the end of the values
  pub values : (value : ℕ) → Any (λ place. place.mux ≡ Under value) places → value < taken.value_end

-- some place shares a bit with the signal and is present with it at some value
abbrev pub Collides : List Place → Mux → Layout → Type 0
Collides places mux layout = Any (λ other. (meets other.mux mux ≡ true) × SharesBit other.layout layout) places
