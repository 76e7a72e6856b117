-- A bundle is the run of its parts, or changes nothing.
use Rattle.std.specs.Prelude.{◌≡◌, ◌⊎◌, ℕ, ◌+◌, List, ◌∷◌, ◌++◌, length, map}
use Rattle.office_types.specs.Parts.{AreParts}
use Rattle.office_types.specs.Reply.{whole_reply}
use Rattle.office_types.specs.declared.command.Action.{Action}
use Rattle.office_types.specs.declared.command.Command.{Command}
use Rattle.office_types.specs.declared.command.Task.TheVariants as task
use Rattle.office_types.specs.declared.refusal.Refusal.{Refusal}
use Rattle.office_types.specs.declared.refusal.Refusal.TheVariants as no
use Rattle.office_types.specs.declared.reply.PartReply.{PartReply}
use Rattle.office_types.specs.declared.reply.Reply.{Reply}
use Rattle.office_types.specs.declared.reply.Reply.TheVariants.{Bundle, Refused}
use Rattle.office_types.specs.declared.state.Office.{Office}
use Rattle.office_rules.specs.Bundling.{refused_part}
use Rattle.office_rules.specs.Profile.{Profile}
use Rattle.office_rules.specs.Step.{TeamCommand, Run, Step}
use Rattle.office_law.specs.Histories.{AreInOrder}

-- a part as a command of its own
abbrev pub command_of : List ℕ → Action → Command
command_of name a = record { net = name; task = task.Act a }

abbrev pub bundle_of : List ℕ → List Action → Command
bundle_of name parts = record { net = name; task = task.Bundle parts }

abbrev pub requests_of : Profile → List ℕ → List ℕ → List Action → List TeamCommand
requests_of profile team name parts = map (λ a. (profile, team, command_of name a)) parts

-- The earlier parts run, and none of them is refused; then this one is refused so. The refusal of the bundle has the
-- part's number, from 1, and the number of the part's refusal.
pub record IsPartRefused (profile : Profile) (before : Office) (team name : List ℕ) (parts : List Action)
    (refusal : Refusal) : Type 0 where
  pub earlier : List Action
  pub part : Action
  pub later : List Action
  pub split : parts ≡ earlier ++ part ∷ later
  pub reported : List PartReply
  pub mid : Office
  pub run : Run before (requests_of profile team name earlier) (map whole_reply reported) mid
  pub why : Refusal
  pub refused : Step profile mid team (command_of name part) (Refused why) mid
  pub reports : refusal ≡ no.BundleRefused (refused_part (length earlier + 1) why)

-- A bundle is answered by the replies of its parts, which ran in order, or is refused, and then it changes nothing.
pub record BundlesRunTheirParts : Type 0 where
  pub answers : (profile : Profile) (before after : Office) (team name : List ℕ) (parts : List Action) (reply : Reply)
      → Step profile before team (bundle_of name parts) reply after
      → ((reported : List PartReply) × (reply ≡ Bundle reported)) ⊎ ((refusal : Refusal) × (reply ≡ Refused refusal))
  pub done : (profile : Profile) (before after : Office) (team name : List ℕ) (parts : List Action)
      (reported : List PartReply) → AreInOrder before
      → Step profile before team (bundle_of name parts) (Bundle reported) after
      → Run before (requests_of profile team name parts) (map whole_reply reported) after
  pub refused : (profile : Profile) (before after : Office) (team name : List ℕ) (parts : List Action)
      (refusal : Refusal) → AreInOrder before → AreParts parts
      → Step profile before team (bundle_of name parts) (Refused refusal) after → (after ≡ before)
      × IsPartRefused profile before team name parts refusal
