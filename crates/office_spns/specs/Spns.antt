-- The suspect parameter numbers of a network.
use Rattle.std.specs.Prelude.{ℕ, ◌==◌, ◌||◌, not, Bool, true, false, List, [], ◌∷◌, map, filter, length, count_by}
use Rattle.std.specs.Prelude.{codes, Option, Some, None, unwrap_or, if◌then◌else◌}
use Rattle.std.specs.List.{flat_map, last_or, list_any}
use Rattle.columns.specs.Run.{runs_of}
use Rattle.dbc_sheet.specs.declared.message.Message.{Message}
use Rattle.dbc_sheet.specs.declared.sheet.Sheet.{Sheet}
use Rattle.dbc_sheet.specs.declared.signal.Signal.{Signal}
use Rattle.office_types.specs.declared.block.BlockForm.TheVariants.{Spn}
use Rattle.office_seen.specs.Granted.{has_number_in}
use Rattle.office_seen.specs.Since.{releases_where}
use Rattle.office_seen.specs.declared.view.View.{View}
use Rattle.office_spns.specs.declared.spn_use.SpnUse.{SpnUse}
use Rattle.office_spns.specs.declared.spn_use.SpnUse.TheVariants.{Live, Gone, Used}
use Rattle.office_spns.specs.declared.spns.TheConstants.{SPNS, SPN_TOTALS}
use Rattle.rows.specs.Fact.{Fact, of_ident, of_name, of_number, of_runs}
use Rattle.rows.specs.Table.{Listing, plain}

-- a signal and its message
abbrev pub SpnPlace : Type 0
SpnPlace = Message × Signal

-- where messages have the number
abbrev pub places_in : ℕ → Message → List SpnPlace
places_in n m = map (λ s. (m, s)) (filter (λ (s : Signal). s.spn == n) m.signals)

abbrev pub places : ℕ → Sheet → List SpnPlace
places n s = flat_map (places_in n) s.messages

abbrev pub is_none : List SpnPlace → Bool
is_none [] = true
is_none (p ∷ ps) = false

-- a signal of the sheet has the number
abbrev pub has_spn : ℕ → Sheet → Bool
has_spn n s = not (is_none (places n s))

-- where the last release that has the number has it
abbrev pub released_places : ℕ → List Sheet → List SpnPlace
released_places n releases = unwrap_or (last_or None (map (places n) (filter (has_spn n) releases))) []

-- live, or in a release and not live, or neither
abbrev pub use_of : ℕ → View → SpnUse
use_of n view = if has_spn n view.sheet then Live else (if list_any (has_spn n) view.releases then Gone else Used)

-- where it is shown: at its live places, else at those of the last release that has it
abbrev pub shown_places : ℕ → View → List SpnPlace
shown_places n view = if has_spn n view.sheet then places n view.sheet else released_places n view.releases

-- it is in a block of the network
abbrev pub is_granted : ℕ → View → Bool
is_granted n view = list_any (has_number_in Spn n) view.blocks

-- it is shown: live or released here, or in a block of the network
abbrev pub is_shown : View → ℕ → Bool
is_shown view n = (has_spn n view.sheet || list_any (has_spn n) view.releases) || is_granted n view

-- ---- the rows

abbrev pub use_word : SpnUse → List ℕ
use_word Live = codes "live"
use_word Gone = codes "gone"
use_word Used = codes "used"

-- identifier, message, signal
abbrev pub place_facts : Option SpnPlace → List Fact
place_facts None = of_ident None ∷ of_name (codes "-") ∷ of_name (codes "-") ∷ []
place_facts (Some p) = of_ident (Some p.0.ident) ∷ of_name p.0.name ∷ of_name p.1.name ∷ []

-- number, use, releases, place
abbrev pub spn_row : View → ℕ → Option SpnPlace → List Fact
spn_row view n place =
    of_number n ∷ of_name (use_word (use_of n view))
    ∷ of_runs (runs_of 1 (releases_where (has_spn n) view.releases)) ∷ place_facts place

-- a row for each place; without places one row
abbrev pub rows_at : View → ℕ → List SpnPlace → List (List Fact)
rows_at view n [] = spn_row view n None ∷ []
rows_at view n (p ∷ ps) = map (λ q. spn_row view n (Some q)) (p ∷ ps)

abbrev pub spn_rows : View → ℕ → List (List Fact)
spn_rows view n = rows_at view n (shown_places n view)

-- ---- the whole

abbrev pub shown_spns : View → List ℕ
shown_spns view = filter (is_shown view) view.used

abbrev pub same_use : SpnUse → SpnUse → Bool
same_use Live Live = true
same_use Gone Gone = true
same_use Used Used = true
same_use a b = false

abbrev pub used_so : View → SpnUse → ℕ
used_so view wanted = count_by (λ n. same_use (use_of n view) wanted) (shown_spns view)

abbrev pub spns_table : View → Listing
spns_table view = plain SPNS (flat_map (spn_rows view) (shown_spns view)) SPN_TOTALS
    (of_number (length (shown_spns view)) ∷ of_number (used_so view Live) ∷ of_number (used_so view Gone)
    ∷ of_number (used_so view Used) ∷ [])
