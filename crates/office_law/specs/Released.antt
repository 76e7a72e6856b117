-- Networks that differ in their releases alone.
use Rattle.std.specs.Prelude.{◌≡◌, ℕ, Bool, true, false, List, length, Some}
use Rattle.std.specs.List.{list_any}
use Rattle.dbc_sheet.specs.declared.sheet.Sheet.{Sheet}
use Rattle.office_types.specs.declared.book.SpnBook.{SpnBook}
use Rattle.office_types.specs.declared.change.Decision.{Decision}
use Rattle.office_types.specs.declared.command.Action.TheVariants as act
use Rattle.office_types.specs.declared.command.Command.{Command}
use Rattle.office_types.specs.declared.command.Task.{Task}
use Rattle.office_types.specs.declared.command.Task.TheVariants.{Act, Import, Bundle}
use Rattle.office_types.specs.declared.state.Net.{Net}
use Rattle.office_rules.specs.Change.{IsDecision, is_release}
use Rattle.office_rules.specs.Commands.{outcome, reads_bodies, reads_releases}
use Rattle.office_rules.specs.Importing.{FileReading}
use Rattle.office_rules.specs.Outcome.{Outcome, Refusing, Changing}

-- the commands that may add a release to their network: `release`, and bundles
abbrev pub may_release : Task → Bool
may_release (Act act.Release) = true
may_release (Act a) = false
may_release (Import file) = false
may_release (Bundle parts) = true

abbrev pub with_releases : List Sheet → Net → Net
with_releases rs net = record net { releases = rs }

-- the same outcome, which leaves the network with other releases
abbrev pub outcome_with : List Sheet → Outcome → Outcome
outcome_with rs (Refusing r) = Refusing r
outcome_with rs (Changing r n e) = Changing r (with_releases rs n) e

pub record ReleasesDontCount : Type 0 where
  -- a command that doesn't depend on the releases has the same outcome, whatever they are
  pub outcomes : (team : List ℕ) (reading : FileReading) (net : Net) (rs : List Sheet) (book : SpnBook) (c : Command)
      → reads_releases c.task ≡ false
      → outcome team reading (Some (with_releases rs net)) book c
      ≡ outcome_with rs (outcome team reading (Some net) book c)
  -- so it is decided in the same way, and adds no release
  pub decisions : (team : List ℕ) (net : Net) (rs : List Sheet) (book : SpnBook) (c : Command) (d : Decision)
      → reads_releases c.task ≡ false
      → IsDecision team (record { net = Some net; book = book }) c d
      → IsDecision team (record { net = Some (with_releases rs net); book = book }) c d
      × (list_any is_release d.changes ≡ false)
  -- nor does any other add one, but those that may
  pub none_added : (team : List ℕ) (net : Net) (book : SpnBook) (c : Command) (d : Decision)
      → may_release c.task ≡ false
      → IsDecision team (record { net = Some net; book = book }) c d → list_any is_release d.changes ≡ false

-- A command that doesn't depend on what is in a release is decided in the same way where its network has as many other
-- releases.
abbrev pub BodiesDontCount : Type 0
BodiesDontCount = (team : List ℕ) (net : Net) (rs qs : List Sheet) (book : SpnBook) (c : Command) (d : Decision)
    → reads_bodies c.task ≡ false → length rs ≡ length qs
    → IsDecision team (record { net = Some (with_releases rs net); book = book }) c d
    → IsDecision team (record { net = Some (with_releases qs net); book = book }) c d
