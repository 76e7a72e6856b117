-- Refusals for want of something come only where there is none: no block (47), no free number (48), no room (60).
use Rattle.std.specs.Prelude.{◌≡◌, ℕ, List, [], Some, None, true}
use Rattle.bitlayout.specs.Start.{HasNoStart}
use Rattle.dbc_sheet.specs.Signals.{HaveOneMultiplexor, places_of}
use Rattle.bitlayout.specs.Clash.{first_clash_of}
use Rattle.bitlayout.specs.declared.clash.Clash.TheVariants as clash
use Rattle.dbc_sheet.specs.declared.signal.Signal.{Signal}
use Rattle.office_types.specs.Block.{block_form}
use Rattle.office_types.specs.Command.{IsAction, group_form}
use Rattle.office_types.specs.Free.{IsLeastFree, is_taken, least_free, number_form}
use Rattle.office_types.specs.declared.block.Block.{Block}
use Rattle.office_types.specs.declared.block.BlockForm.TheVariants.{Pgn}
use Rattle.office_types.specs.declared.book.SpnBook.{SpnBook}
use Rattle.office_types.specs.declared.command.Action.TheVariants as act
use Rattle.office_types.specs.declared.command.TakeBits.{TakeBits}
use Rattle.office_types.specs.declared.command.TakeIdent.{TakeIdent}
use Rattle.office_types.specs.declared.command.TakePgn.{TakePgn}
use Rattle.office_types.specs.declared.command.TakeSpn.{TakeSpn}
use Rattle.office_types.specs.declared.free.NumberForm.{NumberForm}
use Rattle.office_types.specs.declared.free.NumberForm.TheVariants.{Spn}
use Rattle.office_types.specs.declared.refusal.Refusal.TheVariants as no
use Rattle.office_types.specs.declared.state.LiveMessage.{LiveMessage}
use Rattle.office_types.specs.declared.state.Net.{Net}
use Rattle.office_rules.specs.Facts.{blocks_of, lies_in, live_named, spn_blocks_of, taken_groups, taken_numbers}
use Rattle.office_rules.specs.Numbers.{take_ident, take_pgn}
use Rattle.office_rules.specs.Outcome.{Refusing}
use Rattle.office_rules.specs.Signals.{take_bits, take_spn}

-- no start is wanted, and from none would the named message's signals stay clear
pub record HasNoRoom (net : Net) (c : TakeBits) : Type 0 where
  pub any : c.start ≡ None
  pub message : LiveMessage
  pub found : live_named net.live c.path.message ≡ Some message
  pub none : HasNoStart (places_of message.message.signals) message.message.length c.size c.order c.mux

pub record RefusedForWant : Type 0 where
  pub no_ident : (team : List ℕ) (net : Net) (c : TakeIdent) → take_ident team (Some net) c ≡ Refusing no.BlockFull
      → (c.want ≡ None) × IsLeastFree (taken_numbers net c.form) (blocks_of net.blocks team (block_form c.form))
      (number_form c.form) None
  pub no_group : (team : List ℕ) (net : Net) (c : TakePgn) → take_pgn team (Some net) c ≡ Refusing no.BlockFull
      → IsLeastFree (taken_groups net) (blocks_of net.blocks team Pgn) (group_form c.pdu) None
  pub no_spn : (team name : List ℕ) (net : Net) (book : SpnBook) (c : TakeSpn)
      → take_spn team name (Some net) book c ≡ Refusing no.BlockFull
      → (c.same ≡ None) × IsLeastFree book.used (spn_blocks_of book name team) Spn None
  pub no_ident_block : (team : List ℕ) (net : Net) (c : TakeIdent) → take_ident team (Some net) c ≡ Refusing no.NoBlock
      → blocks_of net.blocks team (block_form c.form) ≡ []
  pub no_group_block : (team : List ℕ) (net : Net) (c : TakePgn) → take_pgn team (Some net) c ≡ Refusing no.NoBlock
      → blocks_of net.blocks team Pgn ≡ []
  pub no_spn_block : (team name : List ℕ) (net : Net) (book : SpnBook) (c : TakeSpn)
      → take_spn team name (Some net) book c ≡ Refusing no.NoBlock → spn_blocks_of book name team ≡ []
  pub no_room : (team : List ℕ) (net : Net) (c : TakeBits) → IsAction (act.TakeBits c)
      → take_bits team (Some net) c ≡ Refusing no.NoRoom → HasNoRoom net c

-- Lists of taken numbers that agree inside the blocks have one least free number.
abbrev pub LeastInsideBlocks : Type 0
LeastInsideBlocks =
    (some taken : List ℕ) (blocks : List Block) (form : NumberForm)
    → ((n : ℕ) → lies_in n blocks ≡ true → is_taken n some ≡ is_taken n taken)
    → least_free some blocks form ≡ least_free taken blocks form

-- A sheet has at most one multiplexor in a message, so an import is never refused for two.
abbrev pub NeverTwoMultiplexors : Type 0
NeverTwoMultiplexors =
    (signals : List Signal) (bytes index : ℕ) → HaveOneMultiplexor signals
    → first_clash_of (places_of signals) bytes ≡ Some (clash.TwoMultiplexors index) → ⊥
