-- What a list of changes, decided for the network of a name, leaves of the whole office.
use Rattle.std.specs.Prelude.{◌≡◌, ℕ, ◌<◌, List, length, Option, Some, None, slice_get}
use Rattle.base.specs.Keyed.{put}
use Rattle.office_types.specs.State.{by_name}
use Rattle.office_types.specs.declared.change.Change.{Change}
use Rattle.office_types.specs.declared.state.Office.{Office}
use Rattle.office_rules.specs.Change.{NetAndBook, all_applied}
use Rattle.office_rules.specs.Step.{net_named}

-- the office with its network and its book so
abbrev pub with_both : Office → NetAndBook → Office
with_both o both = elim both.net [
  | None ↦ record o { book = both.book }
  | Some net ↦ record { nets = put by_name net o.nets; book = both.book }
]

-- its network of the name, and its book
abbrev pub both_of : Office → List ℕ → NetAndBook
both_of o name = record { net = net_named o name; book = o.book }

abbrev pub office_applied : Office → List ℕ → List Change → Office
office_applied o name changes = with_both o (all_applied name changes (both_of o name))

-- the index of the network of the name, if it is there
abbrev pub IsNetFound : Office → List ℕ → Option ℕ → Type 0
IsNetFound o name None = net_named o name ≡ None
IsNetFound o name (Some i) = (i < length o.nets) × (slice_get o.nets i ≡ net_named o name)
