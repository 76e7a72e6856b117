-- What every office keeps is kept by each step, and so by each run.
use Rattle.std.specs.Prelude.{ℕ, List, All}
use Rattle.office_types.specs.Command.{IsCommand}
use Rattle.office_types.specs.PlainName.{IsPlainName}
use Rattle.office_types.specs.declared.command.Command.{Command}
use Rattle.office_types.specs.declared.state.Office.{Office}
use Rattle.office_types.specs.declared.reply.Reply.{Reply}
use Rattle.office_rules.specs.Kept.{IsOffice}
use Rattle.office_rules.specs.Profile.{Profile}
use Rattle.office_rules.specs.Step.{TeamCommand, opening, Step, Run}

-- commands of teams, as the types of both keep them, whatever the profile
abbrev pub AreRequests : List TeamCommand → Type 0
AreRequests requests = All (λ q. IsPlainName q.1 × IsCommand q.2) requests

-- The opening office is as every office is; a step leaves it so, and so does each run of steps.
pub record OfficesAreKept : Type 0 where
  pub opening_is : IsOffice opening
  pub step : (profile : Profile) (before after : Office) (team : List ℕ) (c : Command) (reply : Reply)
      → IsOffice before → IsPlainName team → IsCommand c → Step profile before team c reply after → IsOffice after
  pub run : (before after : Office) (requests : List TeamCommand) (replies : List Reply)
      → IsOffice before → AreRequests requests → Run before requests replies after → IsOffice after
