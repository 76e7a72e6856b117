-- Networks are apart: a command reads and changes its own network alone, and but for suspect parameter numbers the book
-- doesn't matter to it.
use Rattle.std.specs.Prelude.{◌≡◌, ◌⊎◌, ℕ, Bool, true, false, List, [], ◌∷◌, ◌++◌, Option, Some}
use Rattle.std.specs.List.{list_any}
use Rattle.std.specs.Str.{bytes_eq}
use Rattle.dbc_sheet.specs.declared.sheet.Sheet.{Sheet}
use Rattle.office_types.specs.Block.{is_spn}
use Rattle.office_types.specs.State.{sheet_of}
use Rattle.office_types.specs.declared.book.SpnBook.{SpnBook}
use Rattle.office_types.specs.declared.command.Action.{Action}
use Rattle.office_types.specs.declared.command.Action.TheVariants as act
use Rattle.office_types.specs.declared.command.Command.{Command}
use Rattle.office_types.specs.declared.command.Task.{Task}
use Rattle.office_types.specs.declared.command.Task.TheVariants.{Act, Import, Bundle}
use Rattle.office_types.specs.declared.reply.Reply.{Reply}
use Rattle.office_types.specs.declared.state.Net.{Net}
use Rattle.office_types.specs.declared.state.Office.{Office}
use Rattle.office_rules.specs.Commands.{outcome}
use Rattle.office_rules.specs.Importing.{FileReading}
use Rattle.office_rules.specs.Outcome.{Entries, Changing}
use Rattle.office_rules.specs.Profile.{Profile}
use Rattle.office_rules.specs.Step.{Step, net_named}

-- the actions that look into the book
abbrev pub action_needs_book : Action → Bool
action_needs_book (act.TakeSpn c) = true
action_needs_book (act.Grant c) = is_spn c.block.form
action_needs_book a = false

-- and the commands; a bundle where one of its parts does
abbrev pub needs_book : Task → Bool
needs_book (Act a) = action_needs_book a
needs_book (Import file) = false
needs_book (Bundle parts) = list_any action_needs_book parts

-- A network's releases after a command: those before it, and by `release` alone the live sheet too, as the last one. A
-- bundle adds those of its parts.
abbrev pub KeepsReleases : Task → Net → Net → Type 0
KeepsReleases (Bundle parts) net after = (new : List Sheet) × (after.releases ≡ net.releases ++ new)
KeepsReleases task net after =
    (after.releases ≡ net.releases) ⊎ ((task ≡ Act act.Release) × (after.releases ≡ net.releases ++ sheet_of net ∷ []))

pub record NetworksAreApart : Type 0 where
  -- no other command depends on the book
  pub without_book : (team : List ℕ) (reading : FileReading) (net : Option Net) (book other : SpnBook) (c : Command)
      → needs_book c.task ≡ false → outcome team reading net book c ≡ outcome team reading net other c
  -- whatever the books, two outcomes on one network with one reply leave one network
  pub one_net : (team : List ℕ) (reading : FileReading) (net : Option Net) (book other : SpnBook) (c : Command)
      (reply : Reply) (n m : Net) (e f : Entries)
      → outcome team reading net book c ≡ Changing reply n e → outcome team reading net other c ≡ Changing reply m f
      → n ≡ m
  -- a network keeps its name and its releases
  pub releases : (team : List ℕ) (reading : FileReading) (net n : Net) (book : SpnBook) (c : Command) (reply : Reply)
      (e : Entries)
      → outcome team reading (Some net) book c ≡ Changing reply n e → (n.name ≡ net.name) × KeepsReleases c.task net n
  -- a step leaves every other network as it was
  pub others : (profile : Profile) (before after : Office) (team : List ℕ) (c : Command) (reply : Reply) (name : List ℕ)
      → Step profile before team c reply after → bytes_eq c.net name ≡ false
      → net_named after name ≡ net_named before name
