-- Where a signal is in the payload, and when it is present.
use Rattle.bitlayout.specs.declared.place.Place.{Place}
use Rattle.dbc_sheet.specs.declared.signal.Signal.{Signal}

abbrev pub place_of : Signal → Place
place_of s = record { layout = s.layout; mux = s.mux }
