-- A network as far as it is read.
use Rattle.std.specs.Prelude.{◌≡◌, ◌-◌, List, [], length, map, slice_get}
use Rattle.dbc_sheet.specs.declared.sheet.Sheet.{Sheet}
use Rattle.office_types.specs.declared.state.Net.{Net}
use Rattle.store_net.specs.SignalParts.{live_in}
use Rattle.store_net.specs.declared.signal_parts.SignalParts.{SignalParts}

-- all but its live messages and its releases
abbrev pub outline : Net → Net
outline net = record net { live = []; releases = [] }

-- all but its releases, its live messages with so much of their signals
abbrev pub partial_net : SignalParts → Net → Net
partial_net detail net = record net { live = map (live_in detail) net.live; releases = [] }

-- as many sheets as there are releases, the last of which is the last release
abbrev pub HasLast : (releases found : List Sheet) → Type 0
HasLast releases found = (length found ≡ length releases)
    × (slice_get found (length found - 1) ≡ slice_get releases (length releases - 1))
