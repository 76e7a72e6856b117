-- What an office in memory keeps beside each network, so that names and numbers are looked up without a walk.
use Rattle.std.specs.Prelude.{◌≡◌, ◌&&◌, ◌==◌, Bool, true, false, ℕ, List, [], ◌∷◌, Option, Some, None, option_map}
use Rattle.std.specs.Prelude.{slice_index_or}
use Rattle.std.proofs.Common.{refl}
use Rattle.std.specs.BTreeMap.{get}
use Rattle.std.specs.Str.{bytes_eq}
use Rattle.base.specs.Ascending.{IsAt}
use Rattle.base.specs.Keyed.{text_cmp}
use Rattle.can_id.specs.Ident.{dbc_number}
use Rattle.can_id.specs.declared.form.IdentForm.{IdentForm}
use Rattle.can_id.specs.declared.form.IdentForm.TheVariants.{Standard, Extended}
use Rattle.can_id.specs.declared.ident.Ident.{Ident}
use Rattle.can_id.specs.declared.ident.Ident.TheVariants as id
use Rattle.dbc_words.specs.Named.{AreNamedApart}
use Rattle.office_types.specs.Free.{is_taken}
use Rattle.office_types.specs.declared.change.Change.{Change}
use Rattle.office_types.specs.declared.change.Change.TheVariants.{SetMessage, RemoveMessage, AddSignal, RemoveSignal}
use Rattle.office_types.specs.declared.change.Change.TheVariants.{SetSpn, SetValues, Hold, EnterSpn, ClearApprovals}
use Rattle.office_types.specs.declared.command.Command.{Command}
use Rattle.office_types.specs.declared.reply.Reply.{Reply}
use Rattle.office_types.specs.declared.state.LiveMessage.{LiveMessage}
use Rattle.office_types.specs.declared.state.Net.{Net}
use Rattle.office_rules.specs.Change.{NetAndBook, left_after}
use Rattle.office_rules.specs.Commands.{outcome}
use Rattle.office_rules.specs.Facts.{is_held, live_name, live_named, number_in, same_ident, taken_numbers}
use Rattle.office_rules.specs.Importing.{FileReading}
use Rattle.office_rules.specs.Outcome.{reply_of}
use Rattle.office_rules.specs.Profile.{Two}
use Rattle.office_rules.specs.Step.{IsRead, file_wanted}
use Rattle.office.specs.declared.net_index.NetIndex.{NetIndex}

-- the number by which live messages are in order
abbrev pub live_number : LiveMessage → ℕ
live_number m = dbc_number m.message.ident

-- the index has these numbers of a form
abbrev pub indexed_numbers : NetIndex → IdentForm → List ℕ
indexed_numbers index Standard = index.standard
indexed_numbers index Extended = index.extended

-- An index of a network: the number of the live message of each name, and of each form the numbers that may not be
-- given out.
pub record IsIndex (index : NetIndex) (net : Net) : Type 0 where
  pub names : (name : List ℕ) → get text_cmp index.names name ≡ option_map live_number (live_named net.live name)
  pub numbers : (form : IdentForm) (n : ℕ)
      → is_taken n (indexed_numbers index form) ≡ is_taken n (taken_numbers net form)

-- one of it, or none
abbrev pub IsIndexIfThere : Option NetIndex → Net → Type 0
IsIndexIfThere None net = Unit {0}
IsIndexIfThere (Some index) net = IsIndex index net

-- each network has one or none; the list may end before that of the networks
abbrev pub AreIndexes : List (Option NetIndex) → List Net → Type 0
AreIndexes [] ns = Unit {0}
AreIndexes (x ∷ xs) [] = ⊥
AreIndexes (x ∷ xs) (n ∷ ns) = IsIndexIfThere x n × AreIndexes xs ns

-- the identifier has the form and this number
abbrev pub has_form_and_number : IdentForm → ℕ → Ident → Bool
has_form_and_number form n i = elim (number_in form i) [
  | None ↦ false
  | Some m ↦ m == n
]

form_and_number_examples : has_form_and_number Standard 5 (id.Std 5) ∷ has_form_and_number Extended 5 (id.Std 5)
    ∷ has_form_and_number Extended 5 (id.Ext 6) ∷ [] ≡ true ∷ false ∷ false ∷ []
form_and_number_examples = refl

-- the live message at the index has the identifier, and no other has its number
pub record IsFoundAt (live : List LiveMessage) (i : Ident) (at : ℕ) : Type 0 where
  pub there : IsAt live_number live (dbc_number i) at
  pub same : (d : LiveMessage) → ◌≡◌ {A = Ident} (let m : LiveMessage = slice_index_or live at d in m.message.ident) i

-- two messages of which an index says the same
abbrev pub indexed_alike : LiveMessage → LiveMessage → Bool
indexed_alike a b = bytes_eq a.message.name b.message.name && same_ident a.message.ident b.message.ident

-- The live message at the index has this name and this identifier; no other has the name or the identifier's number,
-- and the identifier isn't held.
pub record IsRemovable (net : Net) (at : ℕ) (name : List ℕ) (i : Ident) : Type 0 where
  pub found : IsFoundAt net.live i at
  pub named : (d : LiveMessage)
      → ◌≡◌ {A = List ℕ} (let m : LiveMessage = slice_index_or net.live at d in m.message.name) name
  pub apart : AreNamedApart live_name net.live
  pub free : is_held net i ≡ false

-- the change is of live messages or of held identifiers
abbrev pub is_of_messages : Change → Bool
is_of_messages (SetMessage m) = true
is_of_messages (RemoveMessage i) = true
is_of_messages (AddSignal message s) = true
is_of_messages (RemoveSignal path) = true
is_of_messages (SetSpn path n) = true
is_of_messages (SetValues path values) = true
is_of_messages (Hold i) = true
is_of_messages c = false

messages_examples : is_of_messages (Hold (id.Std 5)) ∷ is_of_messages (EnterSpn 5) ∷ is_of_messages ClearApprovals ∷ []
    ≡ true ∷ false ∷ false ∷ []
messages_examples = refl

-- The team's command that comes today is answered so, and leaves its network and the book so.
pub record IsDoneOn (team : List ℕ) (c : Command) (before : NetAndBook) (reply : Reply) (after : NetAndBook) : Type 0
  where
    pub reading : FileReading
    pub read : IsRead Two (file_wanted before.net c.task) reading
    pub answered : reply ≡ reply_of (outcome team reading before.net before.book c)
    pub left : after ≡ left_after before (outcome team reading before.net before.book c)
