-- What a list of changes does at a network and in the book.
use Rattle.std.specs.Prelude.{◌≡◌, Bool, true, false, ℕ, List, [], ◌∷◌, Option, Some, None}
use Rattle.std.specs.Option.{option_map}
use Rattle.std.specs.Ordering.{nat_cmp}
use Rattle.base.specs.Keyed.{put}
use Rattle.base.specs.Refusing.{first_refusal}
use Rattle.dbc_sheet.specs.Signals.{signal_tests}
use Rattle.office_types.specs.Block.{is_spn}
use Rattle.office_types.specs.Book.{by_net}
use Rattle.office_types.specs.declared.book.SpnBook.{SpnBook}
use Rattle.office_types.specs.declared.change.Change.{Change}
use Rattle.office_types.specs.declared.change.Change.TheVariants.{SetHead, SetMessage, RemoveMessage, AddSignal}
use Rattle.office_types.specs.declared.change.Change.TheVariants.{RemoveSignal, SetSpn, SetValues, SetBlock}
use Rattle.office_types.specs.declared.change.Change.TheVariants.{SetSpnBlock, Hold, EnterSpn, SetApproval}
use Rattle.office_types.specs.declared.change.Change.TheVariants.{ClearApprovals, AddRelease}
use Rattle.office_types.specs.declared.change.Decision.{Decision}
use Rattle.office_types.specs.declared.command.Command.{Command}
use Rattle.office_types.specs.declared.state.Head.{Head}
use Rattle.office_types.specs.declared.state.LiveMessage.{LiveMessage}
use Rattle.office_types.specs.declared.state.Net.{Net}
use Rattle.office_rules.specs.Commands.{outcome}
use Rattle.office_rules.specs.Facts.{live_named}
use Rattle.office_rules.specs.Importing.{FileReading}
use Rattle.office_rules.specs.Numbers.{with_message}
use Rattle.office_rules.specs.Opening.{bare_net, with_block}
use Rattle.office_rules.specs.Outcome.{Outcome, Refusing, Changing, entered, reply_of}
use Rattle.office_rules.specs.Profile.{Two}
use Rattle.office_rules.specs.Retiring.{without_message, with_held}
use Rattle.office_rules.specs.Reviewing.{with_approval, with_release}
use Rattle.office_rules.specs.Signals.{with_last_signal, with_signal_out, with_spn, with_values}
use Rattle.office_rules.specs.Step.{IsRead, file_wanted}

-- the command's network, if it is there, and the book
pub record NetAndBook : Type 0 where
  pub net : Option Net
  pub book : SpnBook

-- the network with this head; one that isn't there is made, with nothing else
abbrev pub headed : List ℕ → Head → Option Net → Net
headed name h None = bare_net name h
headed name h (Some net) = record net { head = h }

-- what becomes of the live message of a name, if it is there
abbrev pub at_message : List ℕ → (LiveMessage → LiveMessage) → Net → Net
at_message message f net = elim (live_named net.live message) [
  | None ↦ net
  | Some m ↦ with_message net (f m)
]

-- what a change does at a network that is there
abbrev pub net_changed : Change → Net → Net
net_changed (SetHead h) net = record net { head = h }
net_changed (SetMessage m) net = with_message net m
net_changed (RemoveMessage i) net = without_message net i
net_changed (AddSignal message s) net = at_message message (λ m. with_last_signal m s) net
net_changed (RemoveSignal path) net = at_message path.message (λ m. with_signal_out m path.signal) net
net_changed (SetSpn path n) net = at_message path.message (λ m. with_spn m path.signal n) net
net_changed (SetValues path values) net = at_message path.message (λ m. with_values m path.signal values) net
net_changed (SetBlock g) net = with_block net g
net_changed (SetSpnBlock b) net = net
net_changed (Hold i) net = with_held net i
net_changed (EnterSpn n) net = net
net_changed (SetApproval team) net = with_approval net team
net_changed ClearApprovals net = record net { approvals = [] }
net_changed (AddRelease s) net = with_release net s

-- at one that isn't there only a head is set
abbrev pub changed_net : List ℕ → Change → Option Net → Option Net
changed_net name (SetHead h) net = Some (headed name h net)
changed_net name c net = option_map (net_changed c) net

abbrev pub changed_book : Change → SpnBook → SpnBook
changed_book (SetSpnBlock b) book = record book { blocks = put by_net b book.blocks }
changed_book (EnterSpn n) book = record book { used = put nat_cmp n book.used }
changed_book c book = book

-- what one change does for a command on the network of this name
abbrev pub applied : List ℕ → Change → NetAndBook → NetAndBook
applied name c e = record { net = changed_net name c e.net; book = changed_book c e.book }

abbrev pub all_applied : List ℕ → List Change → NetAndBook → NetAndBook
all_applied name [] e = e
all_applied name (c ∷ cs) e = all_applied name cs (applied name c e)

abbrev pub left_after : NetAndBook → Outcome → NetAndBook
left_after e (Refusing r) = e
left_after e (Changing r net entries) = record { net = Some net; book = entered e.book entries }

-- a refusal has no change
abbrev pub IsQuiet : Outcome → List Change → Type 0
IsQuiet (Refusing r) cs = cs ≡ []
IsQuiet (Changing r net e) cs = Unit {0}

-- where there is no network, nothing is changed or a head comes first, since rows hang on that of their network
abbrev pub IsHeadFirst : Option Net → List Change → Type 0
IsHeadFirst (Some net) cs = Unit {0}
IsHeadFirst None [] = Unit {0}
IsHeadFirst None (SetHead h ∷ cs) = Unit {0}
IsHeadFirst None (c ∷ cs) = ⊥

-- No block of suspect parameter numbers is set on a network: the book has those.
abbrev pub HaveOwnBlocks : List Change → Type 0
HaveOwnBlocks [] = Unit {0}
HaveOwnBlocks (SetBlock g ∷ cs) = (is_spn g.block.form ≡ false) × HaveOwnBlocks cs
HaveOwnBlocks (c ∷ cs) = HaveOwnBlocks cs

abbrev pub is_release : Change → Bool
is_release (AddRelease s) = true
is_release c = false

-- A signal is added to a message that is there and doesn't refuse it.
abbrev pub Fits : Change → Option Net → Type 0
Fits (AddSignal message s) None = ⊥
Fits (AddSignal message s) (Some net) = (m : LiveMessage) × (live_named net.live message ≡ Some m)
    × (first_refusal (signal_tests m.message.signals s) ≡ None)
Fits c net = Unit {0}

-- so does each of the changes, after those before it
abbrev pub AllFit : List ℕ → List Change → NetAndBook → Type 0
AllFit name [] e = Unit {0}
AllFit name (c ∷ cs) e = Fits c e.net × AllFit name cs (applied name c e)

-- the decision has the outcome's reply, and its changes lead to what the outcome leaves
pub record Decides (name : List ℕ) (before : NetAndBook) (out : Outcome) (d : Decision) : Type 0 where
  pub reply : d.reply ≡ reply_of out
  pub changes : all_applied name d.changes before ≡ left_after before out
  pub quiet : IsQuiet out d.changes
  pub head_first : IsHeadFirst before.net d.changes
  pub own_blocks : HaveOwnBlocks d.changes
  pub fit : AllFit name d.changes before

-- what the office decides on a command that comes today, by a reading of the file where one is wanted
pub record IsDecision (team : List ℕ) (before : NetAndBook) (c : Command) (d : Decision) : Type 0 where
  pub reading : FileReading
  pub read : IsRead Two (file_wanted before.net c.task) reading
  pub decides : Decides c.net before (outcome team reading before.net before.book c) d
