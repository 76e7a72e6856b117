-- Signals and their bits in sentences, as a DBC file has them.
use Rattle.std.specs.Prelude.{ℕ, Bool, true, false, List, [], ◌++◌, codes, decimal}
use Rattle.bitlayout.specs.Clash.{collide}
use Rattle.bitlayout.specs.Mux.{indicator_of}
use Rattle.bitlayout.specs.Order.{order_number}
use Rattle.bitlayout.specs.declared.layout.Layout.{Layout}
use Rattle.bitlayout.specs.declared.place.Mux.{Mux}
use Rattle.bitlayout.specs.declared.place.Mux.TheVariants.{Always}
use Rattle.bitlayout.specs.declared.place.Place.{Place}
use Rattle.dbc_sheet.specs.Signal.{place_of}
use Rattle.dbc_sheet.specs.declared.signal.Signal.{Signal}
use Rattle.office_reasons.specs.Pieces.{shown}

abbrev pub sign_of : Bool → List ℕ
sign_of true = codes "-"
sign_of false = codes "+"

-- `8|16@1+`
abbrev pub layout_text : Layout → Bool → List ℕ
layout_text l signed = decimal l.start ++ (codes "|" ++ (decimal l.size
    ++ (codes "@" ++ (decimal (order_number l.order) ++ sign_of signed))))

-- nothing, ` M`, or ` m0`
abbrev pub mark_text : Mux → List ℕ
mark_text Always = []
mark_text mux = codes " " ++ indicator_of mux

-- `OilA (0|8@1+)`, or `OilA m1 (0|8@1+)`
abbrev pub signal_text : List ℕ → Place → Bool → List ℕ
signal_text name place signed = shown name ++ (mark_text place.mux
    ++ (codes " (" ++ (layout_text place.layout signed ++ codes ")")))

-- the signal and the place share a bit, and both are present for some value of the multiplexor
abbrev pub collides_with : Place → Signal → Bool
collides_with place s = collide (place_of s) place
