-- Where a sheet has its suspect parameter numbers.
use Rattle.std.specs.Prelude.{◌≡◌, ℕ, ◌==◌, nat_lt, true, false, List, filter, map}
use Rattle.std.specs.List.{flat_map}
use Rattle.std.specs.List.Sorted.{IsNonDecreasingBy, IsPartitionPoint}
use Rattle.dbc_sheet.specs.declared.message.Message.{Message}
use Rattle.dbc_sheet.specs.declared.sheet.Sheet.{Sheet}
use Rattle.dbc_sheet.specs.declared.signal.Signal.{Signal}
use Rattle.office_spns.specs.Spns.{SpnPlace, places}

abbrev pub place_of : Message → Signal → SpnPlace
place_of m s = (m, s)

abbrev pub spn_at : SpnPlace → ℕ
spn_at p = p.1.spn

-- the places of the message's signals
abbrev pub signals_in : Message → List SpnPlace
signals_in m = map (place_of m) m.signals

-- the places of all signals
abbrev pub all_places : Sheet → List SpnPlace
all_places s = flat_map signals_in s.messages

-- in the order of their numbers, with those of one number as in the sheet
pub record AreInOrder (s : Sheet) (found : List SpnPlace) : Type 0 where
  pub rising : IsNonDecreasingBy spn_at found
  pub of_number : (n : ℕ) → filter (λ p. spn_at p == n) found ≡ places n s

-- so many of the first places have lesser numbers, and no other
abbrev pub AreBelow : ℕ → List SpnPlace → ℕ → Type 0
AreBelow n found count =
    IsPartitionPoint (λ p. nat_lt (spn_at p) n ≡ true) (λ p. nat_lt (spn_at p) n ≡ false) found count
