-- When a signal of a multiplexed message is present (Vector's DBC File Format Documentation, multiplexer
-- indicator of a signal).
use Rattle.std.specs.Prelude.{◌≡◌, ℕ, ◌==◌, ⊤, Bool, true, false, List, [], ◌++◌, codes}
use Rattle.std.specs.Fmt.{decimal}
use Rattle.bitlayout.specs.declared.place.Mux.{Mux}
use Rattle.bitlayout.specs.declared.place.Mux.TheVariants.{Always, Multiplexor, Under}

-- the signal is present when the multiplexor has the value
abbrev pub IsPresent : Mux → ℕ → Type 0
IsPresent Always value = ⊤
IsPresent Multiplexor value = ⊤
IsPresent (Under v) value = v ≡ value

-- both are present for some value
abbrev pub Meet : Mux → Mux → Type 0
Meet a b = (value : ℕ) × IsPresent a value × IsPresent b value

-- the signal depends on some value
abbrev pub IsUnder : Mux → Type 0
IsUnder mux = (value : ℕ) × (mux ≡ Under value)

-- what a DBC file writes after the signal's name: `M`, or `m` and the value
abbrev pub indicator_of : Mux → List ℕ
indicator_of Always = []
indicator_of Multiplexor = codes "M"
indicator_of (Under value) = codes "m" ++ decimal value

-- The same computed.

-- whether both are present for some value
abbrev pub meets : Mux → Mux → Bool
meets (Under v) (Under w) = v == w
meets a b = true

-- whether the signal is the multiplexor
abbrev pub is_multiplexor : Mux → Bool
is_multiplexor Multiplexor = true
is_multiplexor mux = false

-- whether the signal depends on some value
abbrev pub is_under : Mux → Bool
is_under (Under v) = true
is_under mux = false
