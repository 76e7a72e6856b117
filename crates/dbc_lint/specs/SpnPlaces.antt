-- The first place of each suspect parameter number, as it is kept.
use Rattle.std.specs.Prelude.{◌≡◌, ℕ, List, Option}
use Rattle.std.specs.BTreeMap.{get}
use Rattle.std.specs.Ordering.{nat_cmp}
use Rattle.dbc_lint.specs.OfSpn.{SpnPlace, first_place}
use Rattle.dbc_lint.specs.declared.spn_places.FirstPlaces.{FirstPlaces}

-- what is kept for the number
abbrev pub kept_place : FirstPlaces → ℕ → Option SpnPlace
kept_place firsts n = get nat_cmp firsts.places n

-- kept is the first one of these places for each number
abbrev pub HasFirsts : List SpnPlace → FirstPlaces → Type 0
HasFirsts ps firsts = (n : ℕ) → kept_place firsts n ≡ first_place ps n
