-- What deciding one part of a bundle adds to the outcome of the earlier ones.
use Rattle.std.specs.Prelude.{◌≡◌, ℕ, List, [], ◌∷◌, ◌++◌, Option, Some, None}
use Rattle.office_types.specs.Reply.{part_reply}
use Rattle.office_types.specs.declared.change.Decision.{Decision}
use Rattle.office_types.specs.declared.command.Action.{Action}
use Rattle.office_types.specs.declared.refusal.Refusal.{Refusal}
use Rattle.office_types.specs.declared.reply.Reply.{Reply}
use Rattle.office_types.specs.declared.reply.Reply.TheVariants.{Refused}
use Rattle.office_rules.specs.Change.{Decides, all_applied}
use Rattle.office_rules.specs.Commands.{acted}
use Rattle.office_decide.specs.declared.bundling.Progress.{Progress}

abbrev pub refusal_in : Reply → Option Refusal
refusal_in (Refused r) = Some r
refusal_in r = None

-- the part's changes and its answer come last
pub record IsPartAdded (name : List ℕ) (d : Decision) (before after : Progress) : Type 0 where
  pub draft : after.draft ≡ all_applied name d.changes before.draft
  pub changes : after.changes ≡ before.changes ++ d.changes
  pub replies : after.replies ≡ before.replies ++ part_reply d.reply ∷ []

-- the part is decided on the network and the book after the earlier ones, and is added where it isn't refused
pub record IsPartDecided (team name : List ℕ) (part : Action) (before after : Progress)
    (refused : Option Refusal) : Type 0 where
  pub decision : Decision
  pub decides : Decides name before.draft (acted team name before.draft.net before.draft.book part) decision
  pub refusal : refused ≡ refusal_in decision.reply
  pub added : refused ≡ None → IsPartAdded name decision before after
