-- Numbers that are given out are fresh: no live message has them, none was held, none was used.
use Rattle.std.specs.Prelude.{◌≡◌, ◌≢◌, ◌⊎◌, true, ℕ, List, All, Contains, Option, Some, None, map}
use Rattle.bitlayout.specs.Start.{CanStartAt, IsLeastStart}
use Rattle.bitlayout.specs.declared.place.Place.{Place}
use Rattle.can_id.specs.Ident.{ident_of}
use Rattle.can_id.specs.J1939.{IsBuilt, fields_with}
use Rattle.dbc_sheet.specs.Form.{IsSheet}
use Rattle.dbc_sheet.specs.Signals.{places_of}
use Rattle.dbc_sheet.specs.declared.sheet.Sheet.{Sheet}
use Rattle.office_types.specs.Block.{block_form}
use Rattle.office_types.specs.Command.{IsAction, group_form}
use Rattle.office_types.specs.Free.{IsLeastFree, has_form, number_form}
use Rattle.office_types.specs.declared.block.Block.{Block}
use Rattle.office_types.specs.declared.block.BlockForm.TheVariants.{Pgn}
use Rattle.office_types.specs.declared.book.SpnBook.{SpnBook}
use Rattle.office_types.specs.declared.command.Action.TheVariants as act
use Rattle.office_types.specs.declared.command.TakeBits.{TakeBits}
use Rattle.office_types.specs.declared.command.TakeIdent.{TakeIdent}
use Rattle.office_types.specs.declared.command.TakePgn.{TakePgn}
use Rattle.office_types.specs.declared.command.TakeSpn.{TakeSpn}
use Rattle.office_types.specs.declared.free.NumberForm.{NumberForm}
use Rattle.office_types.specs.declared.free.NumberForm.TheVariants.{Spn}
use Rattle.office_types.specs.declared.reply.Reply.{Reply}
use Rattle.office_types.specs.declared.reply.Reply.TheVariants.{Number, Start}
use Rattle.office_types.specs.declared.state.LiveMessage.{LiveMessage}
use Rattle.office_types.specs.declared.state.Net.{Net}
use Rattle.office_rules.specs.Facts.{blocks_of, group_of, lies_in, live_named, spn_blocks_of, taken_groups}
use Rattle.office_rules.specs.Facts.{taken_numbers}
use Rattle.office_rules.specs.Importing.{Reading, import, new_messages, owned_by}
use Rattle.office_rules.specs.Kept.{IsNet}
use Rattle.office_rules.specs.Numbers.{address_of, ident_with, new_message, take_ident, take_pgn, with_message}
use Rattle.office_rules.specs.Outcome.{Entries, no_entries, Changing, entered}
use Rattle.office_rules.specs.Signals.{new_signal, spn_entered, take_bits, take_spn, with_last_signal}

-- the number that is wanted, or where none is the least that may be given out
abbrev pub IsChosen : Option ℕ → List ℕ → List Block → NumberForm → ℕ → Type 0
IsChosen (Some wanted) taken blocks form n = n ≡ wanted
IsChosen None taken blocks form n = IsLeastFree taken blocks form (Some n)

-- the live messages are the earlier ones and this one
pub record IsGrown (live next : List LiveMessage) (m : LiveMessage) : Type 0 where
  pub there : Contains next m
  pub kept : (o : LiveMessage) → Contains live o → Contains next o
  pub only : (o : LiveMessage) → Contains next o → (o ≡ m) ⊎ Contains live o

-- What a `take_ident` that isn't refused gives out and changes: an identifier of the team's blocks, the wanted one or
-- the least, that no live message has and that isn't held. The network gets one message more, which has it.
pub record GivesIdent (team : List ℕ) (net : Net) (c : TakeIdent) (reply : Reply) (after : Net)
    (entries : Entries) : Type 0 where
  pub number : ℕ
  pub formed : has_form (number_form c.form) number ≡ true
  pub granted : lies_in number (blocks_of net.blocks team (block_form c.form)) ≡ true
  pub chosen : IsChosen c.want (taken_numbers net c.form) (blocks_of net.blocks team (block_form c.form))
      (number_form c.form) number
  pub not_live : All (λ m. m.message.ident ≢ ident_of c.form number) net.live
  pub not_held : All (λ i. i ≢ ident_of c.form number) net.held
  pub reported : reply ≡ Number number
  pub added : after ≡ with_message net (new_message team c.message (ident_of c.form number))
  pub grown : IsNet net → IsGrown net.live after.live (new_message team c.message (ident_of c.form number))
  pub quiet : entries ≡ no_entries

-- What a `take_pgn` does: the least parameter group of the team's blocks that has a destination, or has none, and that
-- no live and no held 29-bit identifier has. The identifier of the new message is of that group, with the requested
-- fields.
pub record GivesGroup (team : List ℕ) (net : Net) (c : TakePgn) (reply : Reply) (after : Net) (entries : Entries) : Type
    0 where
  pub number : ℕ
  pub formed : has_form (group_form c.pdu) number ≡ true
  pub granted : lies_in number (blocks_of net.blocks team Pgn) ≡ true
  pub least : IsLeastFree (taken_groups net) (blocks_of net.blocks team Pgn) (group_form c.pdu) (Some number)
  pub not_live : All (λ m. group_of m.message.ident ≢ Some number) net.live
  pub not_held : All (λ i. group_of i ≢ Some number) net.held
  pub built : IsAction (act.TakePgn c)
      → IsBuilt c.priority number (address_of c.pdu) c.source
      (fields_with c.priority number (address_of c.pdu) c.source)
  pub reported : reply ≡ Number number
  pub added : after ≡ with_message net (new_message team c.message (ident_with c number))
  pub grown : IsNet net → IsAction (act.TakePgn c)
      → IsGrown net.live after.live (new_message team c.message (ident_with c number))
  pub quiet : entries ≡ no_entries

-- What a `take_spn` without a wanted number does: the least suspect parameter number of the team's blocks that was
-- never used, and it is used from then on.
pub record GivesSpn (team name : List ℕ) (book : SpnBook) (reply : Reply) (entries : Entries) : Type 0 where
  pub number : ℕ
  pub granted : lies_in number (spn_blocks_of book name team) ≡ true
  pub least : IsLeastFree book.used (spn_blocks_of book name team) Spn (Some number)
  pub unused : Contains book.used number → ⊥
  pub used : Contains (entered book entries).used number
  pub reported : reply ≡ Number number
  pub added : entries ≡ spn_entered number

-- the start that is wanted, or where none is the least from which the signals stay clear
abbrev pub IsStartChosen : Option ℕ → List Place → ℕ → TakeBits → ℕ → Type 0
IsStartChosen (Some wanted) places bytes c start = start ≡ wanted
IsStartChosen None places bytes c start = IsLeastStart places bytes c.size c.order c.mux start

-- What a `take_bits` that isn't refused gives out and changes: a start from which the named message's signals stay
-- clear, the wanted one or the least. The message gets a last signal from there.
pub record GivesStart (net : Net) (c : TakeBits) (reply : Reply) (after : Net) (entries : Entries) : Type 0 where
  pub message : LiveMessage
  pub found : live_named net.live c.path.message ≡ Some message
  pub start : ℕ
  pub clear : CanStartAt (places_of message.message.signals) message.message.length c.size c.order c.mux start
  pub chosen : IsStartChosen c.start (places_of message.message.signals) message.message.length c start
  pub reported : reply ≡ Start start
  pub added : after ≡ with_message net (with_last_signal message (new_signal c start))
  pub quiet : entries ≡ no_entries

-- the live messages are the earlier ones and these
pub record AreJoined (live next new : List LiveMessage) : Type 0 where
  pub there : (m : LiveMessage) → Contains new m → Contains next m
  pub kept : (o : LiveMessage) → Contains live o → Contains next o
  pub only : (o : LiveMessage) → Contains next o → Contains new o ⊎ Contains live o

-- What an import of a sheet does: its messages of identifiers that no live message has, none of which is held, join the
-- live ones, and nothing else does.
pub record GivesFile (team : List ℕ) (net : Net) (s : Sheet) (after : Net) : Type 0 where
  pub not_held : All (λ m. Contains net.held m.ident → ⊥) (new_messages net s.messages)
  pub joined : IsNet net → IsSheet s → AreJoined net.live after.live (map (owned_by team) (new_messages net s.messages))

pub record NumbersAreFresh : Type 0 where
  pub idents : (team : List ℕ) (net after : Net) (c : TakeIdent) (reply : Reply) (e : Entries)
      → take_ident team (Some net) c ≡ Changing reply after e → GivesIdent team net c reply after e
  pub groups : (team : List ℕ) (net after : Net) (c : TakePgn) (reply : Reply) (e : Entries)
      → take_pgn team (Some net) c ≡ Changing reply after e → GivesGroup team net c reply after e
  pub spns : (team name : List ℕ) (net after : Net) (book : SpnBook) (c : TakeSpn) (reply : Reply) (e : Entries)
      → c.same ≡ None → take_spn team name (Some net) book c ≡ Changing reply after e → GivesSpn team name book reply e
  pub starts : (team : List ℕ) (net after : Net) (c : TakeBits) (reply : Reply) (e : Entries)
      → take_bits team (Some net) c ≡ Changing reply after e → GivesStart net c reply after e
  pub imports : (team : List ℕ) (net after : Net) (s : Sheet) (reply : Reply) (e : Entries)
      → import team (Some net) (Reading s) ≡ Changing reply after e → GivesFile team net s after
  -- and whatever a command enters, a used number stays used
  pub stay_used : (book : SpnBook) (e : Entries) (n : ℕ) → Contains book.used n → Contains (entered book e).used n
