-- Steps of the office, and runs of them.
use Rattle.std.specs.Prelude.{◌≡◌, ℕ, ◌≤◌, true, false, List, [], ◌∷◌, ◌++◌, length, take, Option, Some, None, Contains}
use Rattle.std.specs.Prelude.{find, map}
use Rattle.std.specs.Str.{bytes_eq}
use Rattle.base.specs.Keyed.{put}
use Rattle.dbc_sheet.specs.declared.sheet.Sheet.{Sheet}
use Rattle.office_types.specs.State.{by_name}
use Rattle.office_types.specs.declared.command.Command.{Command}
use Rattle.office_types.specs.declared.command.Task.{Task}
use Rattle.office_types.specs.declared.command.Task.TheVariants.{Act, Import, Bundle}
use Rattle.office_types.specs.declared.refusal.FileFault.{FileFault}
use Rattle.office_types.specs.declared.reply.Reply.{Reply}
use Rattle.office_types.specs.declared.state.Net.{Net}
use Rattle.office_types.specs.declared.state.Office.{Office}
use Rattle.office_rules.specs.Commands.{outcome}
use Rattle.office_rules.specs.Facts.{in_review}
use Rattle.office_rules.specs.Importing.{FileReading, Reading, Unreadable}
use Rattle.office_rules.specs.Profile.{Profile, Two, ReadsUnder}
use Rattle.office_rules.specs.Outcome.{Outcome, Refusing, Changing, reply_of, entered}

-- Readings of an imported file under a profile: the sheet that it reads as, or, where it reads as none, any code that
-- reading has and any offset up to the file's length.

abbrev pub fault_codes : List ℕ
fault_codes = 20 ∷ 21 ∷ 25 ∷ 26 ∷ 30 ∷ 31 ∷ 32 ∷ 33 ∷ 34 ∷ 35 ∷ 36 ∷ 37 ∷ 38 ∷ 39 ∷ []

pub record IsUnreadable (p : Profile) (file : List ℕ) (f : FileFault) : Type 0 where
  pub unread : (s : Sheet) → ReadsUnder p file s → ⊥
  pub code : Contains fault_codes f.fault
  pub offset : f.at ≤ length file

abbrev pub IsReadingOf : Profile → List ℕ → FileReading → Type 0
IsReadingOf p file (Reading s) = ReadsUnder p file s
IsReadingOf p file (Unreadable f) = IsUnreadable p file f

-- the file that a task wants read: that of an import, on a network that is there and in draft
abbrev pub file_of : Task → Option (List ℕ)
file_of (Act a) = None
file_of (Import file) = Some file
file_of (Bundle parts) = None

abbrev pub file_wanted : Option Net → Task → Option (List ℕ)
file_wanted None task = None
file_wanted (Some net) task = elim (in_review net.head.phase) [ true ↦ None | false ↦ file_of task ]

-- where no file is wanted any reading will do, as nothing depends on it
abbrev pub IsRead : Profile → Option (List ℕ) → FileReading → Type 0
IsRead p None reading = Unit {0}
IsRead p (Some file) reading = IsReadingOf p file reading

-- the office with no network and an empty book
abbrev pub opening : Office
opening = record { nets = []; book = record { blocks = []; used = [] } }

abbrev pub net_named : Office → List ℕ → Option Net
net_named o name = find (λ net. bytes_eq net.name name) o.nets

-- a refusal leaves the office as it was
abbrev pub office_after : Office → Outcome → Office
office_after o (Refusing r) = o
office_after o (Changing r net e) = record { nets = put by_name net o.nets; book = entered o.book e }

abbrev pub step_outcome : Office → List ℕ → FileReading → Command → Outcome
step_outcome o team reading c = outcome team reading (net_named o c.net) o.book c

-- The team's command that came under the profile is answered so, and leaves the office so.
pub record Step (p : Profile) (before : Office) (team : List ℕ) (c : Command) (reply : Reply) (after : Office) : Type 0
  where
    pub reading : FileReading
    pub read : IsRead p (file_wanted (net_named before c.net) c.task) reading
    pub answered : reply ≡ reply_of (step_outcome before team reading c)
    pub left : after ≡ office_after before (step_outcome before team reading c)

-- a command with its team and its profile
abbrev pub TeamCommand : Type 0
TeamCommand = Profile × List ℕ × Command

-- The commands in order, each with its profile and its team, are answered so, and leave the office so.
abbrev pub Run : Office → List TeamCommand → List Reply → Office → Type 0
Run before [] [] after = after ≡ before
Run before [] (r ∷ rs) after = ⊥
Run before (q ∷ qs) [] after = ⊥
Run before (q ∷ qs) (r ∷ rs) after = (mid : Office) × Step q.0 before q.1 q.2 r mid × Run mid qs rs after

-- Commands that come today, each with its team.
abbrev pub requested_now : List (List ℕ × Command) → List TeamCommand
requested_now requests = map (λ q. (Two, q.0, q.1)) requests

-- The commands were run: their replies were added to the earlier ones.
pub record HasRun (before : Office) (requests : List (List ℕ × Command)) (earlier replies : List Reply)
    (after : Office) : Type 0 where
  pub reported : List Reply
  pub added : replies ≡ earlier ++ reported
  pub run : Run before (requested_now requests) reported after

-- This many of the commands, from the first one on, were run.
abbrev pub HasBegun : Office → List (List ℕ × Command) → List Reply → List Reply → Office → Type 0
HasBegun before requests earlier replies after =
    (n : ℕ) × (n ≤ length requests) × HasRun before (take n requests) earlier replies after
