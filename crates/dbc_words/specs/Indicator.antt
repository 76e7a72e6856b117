-- The multiplexer indicators of signals (Vector's DBC File Format Documentation, in this project's dialect).
use Rattle.std.specs.Prelude.{ℕ, ◌==◌, List, [], ◌∷◌, Option, Some, None, option_map, if◌then◌else◌, codes}
use Rattle.std.specs.Str.{bytes_eq}
use Rattle.base.specs.WholeNumber.{whole_of}
use Rattle.bitlayout.specs.declared.place.Mux.{Mux}
use Rattle.bitlayout.specs.declared.place.Mux.TheVariants.{Multiplexor, Under}

-- `m` and digits
abbrev pub under_of : List ℕ → Option Mux
under_of [] = None
under_of (b ∷ digits) = if b == 109 then option_map Under (whole_of digits) else None

-- `M`, or `m` and digits up to 4294967295, with leading zeros or without; the dialect has none for extended
-- multiplexing, which is `m`, digits and `M`
abbrev pub mux_of_indicator : List ℕ → Option Mux
mux_of_indicator indicator = if bytes_eq indicator (codes "M") then Some Multiplexor else under_of indicator
