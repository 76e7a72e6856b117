-- A command's list of tests decides: the first that holds refuses it, and where none holds it is answered.
use Rattle.std.specs.Prelude.{◌≡◌, true, ℕ, List, [], ◌∷◌, Option, Some, None}
use Rattle.base.specs.Refusing.{Test, first_refusal}
use Rattle.office_types.specs.declared.book.SpnBook.{SpnBook}
use Rattle.office_types.specs.declared.command.Command.{Command}
use Rattle.office_types.specs.declared.command.Task.{Task}
use Rattle.office_types.specs.declared.command.Task.TheVariants.{Act, Import, Bundle}
use Rattle.office_types.specs.declared.refusal.Refusal.{Refusal}
use Rattle.office_types.specs.declared.state.Net.{Net}
use Rattle.office_types.specs.declared.refusal.Refusal.TheVariants as no
use Rattle.office_rules.specs.Bundling.{PartsOutcome, RefusedAt, AllDone, refused_part}
use Rattle.office_rules.specs.Commands.{action_tests, outcome, parts_done}
use Rattle.office_rules.specs.Importing.{FileReading, import_tests}
use Rattle.office_rules.specs.Outcome.{Outcome, Refusing, Changing, when}

-- The tests of a bundle: it is refused where one of its parts is.
abbrev pub bundle_tests : PartsOutcome → List (Test Refusal)
bundle_tests (RefusedAt number r) = when true (no.BundleRefused (refused_part number r)) ∷ []
bundle_tests (AllDone replies (Some net) e) = []
bundle_tests (AllDone replies None e) = when true no.NoNet ∷ []

-- the tests of a command
abbrev pub task_tests : List ℕ → List ℕ → FileReading → Option Net → SpnBook → Task → List (Test Refusal)
task_tests team name reading net book (Act a) = action_tests team name net book a
task_tests team name reading net book (Import file) = import_tests team net reading
task_tests team name reading net book (Bundle parts) = bundle_tests (parts_done team name 1 net book parts)

abbrev pub IsDecidedBy : Option Refusal → Outcome → Type 0
IsDecidedBy first (Refusing r) = first ≡ Some r
IsDecidedBy first (Changing r net e) = first ≡ None

abbrev pub TestsDecide : Type 0
TestsDecide = (team : List ℕ) (reading : FileReading) (net : Option Net) (book : SpnBook) (c : Command) →
    IsDecidedBy (first_refusal (task_tests team c.net reading net book c.task)) (outcome team reading net book c)
