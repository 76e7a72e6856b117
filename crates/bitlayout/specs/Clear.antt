-- Places that fit together in one message.
use Rattle.std.specs.Prelude.{◌≡◌, ℕ, List, All, AllPairs, Any}
use Rattle.bitlayout.specs.declared.place.Mux.TheVariants.{Multiplexor}
use Rattle.bitlayout.specs.declared.place.Place.{Place}
use Rattle.bitlayout.specs.Bits.{IsInside, SharesBit}
use Rattle.bitlayout.specs.Mux.{IsPresent, IsUnder}

-- the place is the multiplexor
abbrev pub IsMultiplexor : Place → Type 0
IsMultiplexor place = place.mux ≡ Multiplexor

-- both are present when the multiplexor has the value, and they share a position
abbrev pub CollideAt : ℕ → Place → Place → Type 0
CollideAt value a b = IsPresent a.mux value × IsPresent b.mux value × SharesBit a.layout b.layout

-- the places of a message of this many bytes are clear
pub record IsClear (places : List Place) (bytes : ℕ) : Type 0 where
  -- every bit is in the payload
  pub inside : All (λ place. IsInside place.layout bytes) places
  -- at most one is the multiplexor: no two are
  pub one_multiplexor : AllPairs (λ a b. ¬ (IsMultiplexor a × IsMultiplexor b)) places
  -- one is, if any depends on its value
  pub multiplexor : Any (λ place. IsUnder place.mux) places → Any IsMultiplexor places
  -- for no value of the multiplexor do any two of them collide
  pub apart : (value : ℕ) → AllPairs (λ a b. ¬ (CollideAt value a b)) places
