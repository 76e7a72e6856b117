-- The tests of an import that come first.
use Rattle.std.specs.Prelude.{List, ◌∷◌}
use Rattle.std.specs.List.{flat_map}
use Rattle.base.specs.Refusing.{Test}
use Rattle.dbc_sheet.specs.declared.sheet.Sheet.{Sheet}
use Rattle.office_types.specs.declared.refusal.Refusal.{Refusal}
use Rattle.office_types.specs.declared.refusal.Refusal.TheVariants as no
use Rattle.office_types.specs.declared.state.Net.{Net}
use Rattle.office_rules.specs.Facts.{in_review}
use Rattle.office_rules.specs.Importing.{clear_tests}
use Rattle.office_rules.specs.Outcome.{when}

-- of the network's phase, and of each message alone
abbrev pub early_tests : Net → Sheet → List (Test Refusal)
early_tests net s = when (in_review net.head.phase) no.InReview ∷ flat_map clear_tests s.messages
