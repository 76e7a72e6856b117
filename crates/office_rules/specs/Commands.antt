-- What a team's command on a network results in, its tests, and what it reads of releases: each command has its own
-- definition.
use Rattle.std.specs.Prelude.{ℕ, ◌+◌, Bool, true, false, List, [], ◌∷◌, Option, Some}
use Rattle.std.specs.List.{list_any}
use Rattle.base.specs.Refusing.{Test}
use Rattle.office_types.specs.declared.book.SpnBook.{SpnBook}
use Rattle.office_types.specs.declared.command.Action.{Action}
use Rattle.office_types.specs.declared.command.Action.TheVariants as act
use Rattle.office_types.specs.declared.command.Command.{Command}
use Rattle.office_types.specs.declared.command.Task.{Task}
use Rattle.office_types.specs.declared.command.Task.TheVariants.{Act, Import, Bundle}
use Rattle.office_types.specs.declared.refusal.Refusal.{Refusal}
use Rattle.office_types.specs.declared.state.Net.{Net}
use Rattle.office_rules.specs.Bundling.{PartsOutcome, AllDone, bundle_outcome, part_then}
use Rattle.office_rules.specs.Facts.{group_facts, ident_facts, message_facts}
use Rattle.office_rules.specs.Importing.{FileReading, import}
use Rattle.office_rules.specs.Numbers.{take_ident, take_ident_tests, take_pgn, take_pgn_tests}
use Rattle.office_rules.specs.Opening.{add_node, add_node_tests, grant, grant_tests, open_net, open_net_tests}
use Rattle.office_rules.specs.Outcome.{Outcome, entered, no_entries, on_net}
use Rattle.office_rules.specs.Retiring.{retire, retire_tests}
use Rattle.office_rules.specs.Reviewing.{approve, reject, release, release_tests, review_tests, submit, submit_tests}
use Rattle.office_rules.specs.Signals.{remove_signal, remove_signal_tests, set_values, set_values_tests, take_bits}
use Rattle.office_rules.specs.Signals.{take_bits_tests, take_spn, take_spn_tests}

-- an action on the network of this name, which may not be there
abbrev pub acted : List ℕ → List ℕ → Option Net → SpnBook → Action → Outcome
acted team name net book (act.OpenNet c) = open_net team name net c
acted team name net book (act.Grant c) = grant team name net book c
acted team name net book (act.AddNode node) = add_node net node
acted team name net book (act.TakeIdent c) = take_ident team net c
acted team name net book (act.TakePgn c) = take_pgn team net c
acted team name net book (act.TakeSpn c) = take_spn team name net book c
acted team name net book (act.TakeBits c) = take_bits team net c
acted team name net book (act.SetValues c) = set_values team net c
acted team name net book (act.RemoveSignal path) = remove_signal team net path
acted team name net book (act.Retire message) = retire team net message
acted team name net book act.Submit = submit team net
acted team name net book act.Approve = approve team net
acted team name net book act.Reject = reject team net
acted team name net book act.Release = release team net

-- its tests
abbrev pub action_tests : List ℕ → List ℕ → Option Net → SpnBook → Action → List (Test Refusal)
action_tests team name net book (act.OpenNet c) = open_net_tests team net
action_tests team name net book (act.Grant c) = grant_tests team net book c
action_tests team name net book (act.AddNode node) = add_node_tests net node
action_tests team name net book (act.TakeIdent c) =
    on_net net (λ n. take_ident_tests team (ident_facts n c.message.name c.form c.want) c)
action_tests team name net book (act.TakePgn c) = on_net net (λ n. take_pgn_tests team (group_facts n c.message.name) c)
action_tests team name net book (act.TakeSpn c) =
    on_net net (λ n. take_spn_tests team name (message_facts n c.path.message) book c)
action_tests team name net book (act.TakeBits c) =
    on_net net (λ n. take_bits_tests team (message_facts n c.path.message) c)
action_tests team name net book (act.SetValues c) =
    on_net net (λ n. set_values_tests team (message_facts n c.path.message) c)
action_tests team name net book (act.RemoveSignal path) =
    on_net net (λ n. remove_signal_tests team (message_facts n path.message) path)
action_tests team name net book (act.Retire message) = on_net net (λ n. retire_tests team (message_facts n message))
action_tests team name net book act.Submit = submit_tests net
action_tests team name net book act.Approve = review_tests team net
action_tests team name net book act.Reject = review_tests team net
action_tests team name net book act.Release = release_tests team net

-- What an action depends on of the releases of its network: nothing, how many there are, or what is in them.
pub data OfReleases : Type 0 where
  Nothing : OfReleases
  Count : OfReleases
  Bodies : OfReleases

-- `retire` on whether one has the message's number
abbrev pub releases_read : Action → OfReleases
releases_read (act.Retire message) = Bodies
releases_read act.Release = Count
releases_read a = Nothing

abbrev pub is_of_releases : OfReleases → Bool
is_of_releases Nothing = false
is_of_releases read = true

abbrev pub is_of_bodies : OfReleases → Bool
is_of_bodies Bodies = true
is_of_bodies read = false

abbrev pub action_reads_releases : Action → Bool
action_reads_releases a = is_of_releases (releases_read a)

abbrev pub action_reads_bodies : Action → Bool
action_reads_bodies a = is_of_bodies (releases_read a)

-- the commands that depend on the releases of their network; a bundle where one of its parts does
abbrev pub reads_releases : Task → Bool
reads_releases (Act a) = action_reads_releases a
reads_releases (Import file) = false
reads_releases (Bundle parts) = list_any action_reads_releases parts

-- and those that depend on what is in a release
abbrev pub reads_bodies : Task → Bool
reads_bodies (Act a) = action_reads_bodies a
reads_bodies (Import file) = false
reads_bodies (Bundle parts) = list_any action_reads_bodies parts

-- The parts of a bundle in order, numbered from this number on, each on the network and with the book that the earlier
-- ones left.
abbrev pub parts_done : List ℕ → List ℕ → ℕ → Option Net → SpnBook → List Action → PartsOutcome
parts_done team name number net book [] = AllDone [] net no_entries
parts_done team name number net book (a ∷ parts) =
    part_then number (acted team name net book a)
    (λ n e. parts_done team name (number + 1) (Some n) (entered book e) parts)

-- an import also takes what its file reads as
abbrev pub done_task : List ℕ → List ℕ → FileReading → Option Net → SpnBook → Task → Outcome
done_task team name reading net book (Act a) = acted team name net book a
done_task team name reading net book (Import file) = import team net reading
done_task team name reading net book (Bundle parts) = bundle_outcome (parts_done team name 1 net book parts)

abbrev pub outcome : List ℕ → FileReading → Option Net → SpnBook → Command → Outcome
outcome team reading net book c = done_task team c.net reading net book c.task
