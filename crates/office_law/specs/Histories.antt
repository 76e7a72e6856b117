-- What becomes of a network depends on its own history alone.
use Rattle.std.specs.Prelude.{◌≡◌, ◌⊎◌, ℕ, false, if◌then◌else◌, List, [], ◌∷◌, Option, Some}
use Rattle.std.specs.List.Sorted.{IsStrictlySortedBy}
use Rattle.std.specs.Str.{bytes_eq}
use Rattle.office_types.specs.State.{by_name}
use Rattle.office_types.specs.declared.command.Command.{Command}
use Rattle.office_types.specs.declared.reply.Reply.{Reply}
use Rattle.office_types.specs.declared.state.Net.{Net}
use Rattle.office_types.specs.declared.state.Office.{Office}
use Rattle.office_rules.specs.Importing.{FileReading}
use Rattle.office_rules.specs.Outcome.{Outcome, Refusing, Changing}
use Rattle.office_rules.specs.Profile.{Profile}
use Rattle.office_rules.specs.Step.{TeamCommand, Run, Step, net_named, office_after, step_outcome}
use Rattle.office_law.specs.Apart.{needs_book}
use Rattle.office_law.specs.Agree.{IsFileRefused}

-- the network after a command: a refusal leaves it as it was
abbrev pub net_after : Option Net → Outcome → Option Net
net_after before (Refusing r) = before
net_after before (Changing r net e) = Some net

-- Networks are in the order of their names, as those of every office are.
abbrev pub AreInOrder : Office → Type 0
AreInOrder o = IsStrictlySortedBy by_name o.nets

-- After a command the network of its name is the one that its outcome leaves.
abbrev pub OutcomesAreLeft : Type 0
OutcomesAreLeft = (before : Office) (team : List ℕ) (reading : FileReading) (c : Command) → AreInOrder before →
    net_named (office_after before (step_outcome before team reading c)) c.net ≡ net_after (net_named before c.net)
    (step_outcome before team reading c)

-- On one network, whatever else there is in two offices: a command that doesn't read the book is answered alike, but for
-- the faults of a file that reads as no sheet.
abbrev pub RepliesApart : Type 0
RepliesApart = (profile : Profile) (o p a b : Office) (team : List ℕ) (c : Command) (r s : Reply)
    → Step profile o team c r a → Step profile p team c s b →
    net_named o c.net ≡ net_named p c.net → needs_book c.task ≡ false
    → (r ≡ s) ⊎ (IsFileRefused profile o c r a × IsFileRefused profile p c s b)

-- the commands on the network of this name, each with its profile and its team and with what it was answered
abbrev pub history : List ℕ → List TeamCommand → List Reply → List (Profile × List ℕ × Command × Reply)
history name [] rs = []
history name (q ∷ qs) [] = []
history name (q ∷ qs) (r ∷ rs) = if bytes_eq q.2.net name then (q.0, q.1, q.2, r) ∷ history name qs rs else history name
    qs rs

-- Two runs of whatever commands in whatever offices leave one network of a name, where it was one before and those of
-- the commands that are on it are the same and are answered alike.
abbrev pub OneHistoryOneNetwork : Type 0
OneHistoryOneNetwork = (name : List ℕ) (o p a b : Office) (qs ps : List TeamCommand) (rs ss : List Reply) →
    AreInOrder o → AreInOrder p → Run o qs rs a → Run p ps ss b → net_named o name ≡ net_named p name
    → history name qs rs ≡ history name ps ss → net_named a name ≡ net_named b name
