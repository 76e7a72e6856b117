-- What is reported of the bits of a new signal.
use Rattle.std.specs.Prelude.{ℕ, ◌*◌, ◌-◌, ◌==◌, List, ◌++◌, Option, Some, None, codes, decimal, find, option_map}
use Rattle.std.specs.Prelude.{if◌then◌else◌}
use Rattle.std.specs.Option.{option_and_then}
use Rattle.bitlayout.specs.Start.{least_start_of}
use Rattle.dbc_advice.specs.Reasons.{first_outside, first_shared}
use Rattle.dbc_sheet.specs.Signal.{place_of}
use Rattle.dbc_sheet.specs.Signals.{places_of}
use Rattle.dbc_sheet.specs.declared.message.Message.{Message}
use Rattle.dbc_sheet.specs.declared.signal.Signal.{Signal}
use Rattle.office_types.specs.declared.command.TakeBits.{TakeBits}
use Rattle.office_rules.specs.Signals.{place_at}
use Rattle.office_reasons.specs.Pieces.{shown}
use Rattle.office_reasons.specs.Places.{collides_with, signal_text}

-- how many bytes a payload has, and which bits
abbrev pub bytes_text : ℕ → List ℕ
bytes_text n =
    if n == 0 then codes "no bytes"
    else (if n == 1 then codes "1 byte, bits 0 to " ++ decimal (8 * n - 1)
    else decimal n ++ (codes " bytes, bits 0 to " ++ decimal (8 * n - 1)))

abbrev pub start_text : Option ℕ → List ℕ
start_text None = codes "no start is free"
start_text (Some start) = codes "the least start that is free is " ++ decimal start

-- from where on the new signal fits
abbrev pub start_hint : Message → TakeBits → List ℕ
start_hint m c = start_text (least_start_of (places_of m.signals) m.length c.size c.order c.mux)

-- the new signal at a start has a bit outside the payload
abbrev pub outside_text : Message → TakeBits → ℕ → ℕ → List ℕ
outside_text m c start bit = signal_text c.path.signal (place_at c start) c.signed ++ (codes " has bit "
    ++ (decimal bit ++ (codes ", and " ++ (shown m.name ++ (codes " has " ++ (bytes_text m.length
    ++ (codes "; " ++ start_hint m c)))))))

-- a bit of it is that of another signal
abbrev pub shared_text : Message → TakeBits → ℕ → Signal → ℕ → List ℕ
shared_text m c start s bit = signal_text c.path.signal (place_at c start) c.signed ++ (codes " has bit "
    ++ (decimal bit ++ (codes ", which signal " ++ (signal_text s.name (place_of s) s.signed ++ (codes " has in "
    ++ (shown m.name ++ (codes "; " ++ start_hint m c)))))))

-- the least bit outside, if there is one
abbrev pub outside_reason : Message → TakeBits → ℕ → Option (List ℕ)
outside_reason m c start = option_map (outside_text m c start) (first_outside m.length (place_at c start).layout)

-- the least bit that the first signal with a bit of it shares with it, if there is one
abbrev pub partner_reason : Message → TakeBits → ℕ → Signal → Option (List ℕ)
partner_reason m c start s =
    option_map (shared_text m c start s) (first_shared m.length s.layout (place_at c start).layout)

abbrev pub shared_reason : Message → TakeBits → ℕ → Option (List ℕ)
shared_reason m c start =
    option_and_then (partner_reason m c start) (find (collides_with (place_at c start)) m.signals)
