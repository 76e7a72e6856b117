-- A step is a function, but for the fault that is reported of a file that reads as no sheet.
use Rattle.std.specs.Prelude.{◌≡◌, ◌⊎◌, ℕ, List, Some}
use Rattle.office_types.specs.declared.command.Command.{Command}
use Rattle.office_types.specs.declared.refusal.FileFault.{FileFault as Fault}
use Rattle.office_types.specs.declared.refusal.Refusal.TheVariants.{FileFault}
use Rattle.office_types.specs.declared.reply.Reply.{Reply}
use Rattle.office_types.specs.declared.reply.Reply.TheVariants.{Refused}
use Rattle.office_types.specs.declared.state.Office.{Office}
use Rattle.office_rules.specs.Profile.{Profile}
use Rattle.office_rules.specs.Step.{IsUnreadable, Step, file_wanted, net_named}

-- the command imports a file that reads as no sheet, and is refused with one of the faults that may be reported of it
pub record IsFileRefused (profile : Profile) (before : Office) (c : Command) (reply : Reply) (after : Office) : Type 0
  where
    pub file : List ℕ
    pub wanted : file_wanted (net_named before c.net) c.task ≡ Some file
    pub fault : Fault
    pub unreadable : IsUnreadable profile file fault
    pub reported : reply ≡ Refused (FileFault fault)
    pub left : after ≡ before

-- two steps of one office by one command of one team that came under one profile are the same, or both are refused
-- since the file reads as no sheet
abbrev pub StepsAgree : Type 0
StepsAgree =
    (profile : Profile) (before a b : Office) (team : List ℕ) (c : Command) (r s : Reply)
    → Step profile before team c r a → Step profile before team c s b
    → ((r ≡ s) × (a ≡ b)) ⊎ (IsFileRefused profile before c r a × IsFileRefused profile before c s b)
