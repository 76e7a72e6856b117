-- Taking an identifier or a parameter group for a new message.
use Rattle.std.specs.Prelude.{ℕ, not, ◌&&◌, List, [], ◌∷◌, ◌++◌, Option, Some, None, is_none, unwrap_or}
use Rattle.base.specs.Keyed.{put}
use Rattle.base.specs.Refusing.{Test}
use Rattle.can_id.specs.Ident.{ident_of}
use Rattle.can_id.specs.J1939.{fields_with, number_of}
use Rattle.can_id.specs.declared.ident.Ident.{Ident}
use Rattle.can_id.specs.declared.ident.Ident.TheVariants as id
use Rattle.office_types.specs.Block.{block_form}
use Rattle.office_types.specs.Command.{group_form}
use Rattle.office_types.specs.Free.{has_form, least_free, number_form}
use Rattle.office_types.specs.State.{by_number}
use Rattle.office_types.specs.declared.block.BlockForm.TheVariants.{Pgn}
use Rattle.office_types.specs.declared.command.NewMessage.{NewMessage}
use Rattle.office_types.specs.declared.command.Pdu.{Pdu}
use Rattle.office_types.specs.declared.command.Pdu.TheVariants.{Addressed, Broadcast}
use Rattle.office_types.specs.declared.command.TakeIdent.{TakeIdent}
use Rattle.office_types.specs.declared.command.TakePgn.{TakePgn}
use Rattle.office_types.specs.declared.refusal.Refusal.{Refusal}
use Rattle.office_types.specs.declared.refusal.Refusal.TheVariants as no
use Rattle.office_types.specs.declared.reply.Reply.TheVariants.{Number}
use Rattle.office_types.specs.declared.state.LiveMessage.{LiveMessage}
use Rattle.office_types.specs.declared.state.Net.{Net}
use Rattle.office_rules.specs.Facts.{NumberFacts, ident_facts, group_facts, is_j1939, in_review, knows_node, blocks_of}
use Rattle.office_rules.specs.Facts.{lies_in}
use Rattle.office_rules.specs.Lists.{none_of}
use Rattle.office_rules.specs.Outcome.{no_entries, Outcome, Changing, when, on_net, unless, given_or}

-- The network is in draft, the message's node is one of its nodes, the name is new, and there is room.
abbrev pub name_tests : NumberFacts → NewMessage → List (Test Refusal)
name_tests facts m =
    when (in_review facts.phase) no.InReview
    ∷ when (not (knows_node facts.nodes m.node)) no.NoNode
    ∷ when facts.named no.NameTaken
    ∷ when facts.full no.TooMany ∷ []

-- a message without signals, and its owner
abbrev pub new_message : List ℕ → NewMessage → Ident → LiveMessage
new_message team m i = record {
  message = record { ident = i; name = m.name; length = m.length; transmitter = m.node; comment = []; signals = [] };
  owner = team;
}

-- the network with the message where its number belongs, in place of one of that number
abbrev pub with_message : Net → LiveMessage → Net
with_message net m = record net { live = put by_number m net.live }

-- Take an identifier: the wanted one, or the least of the team's blocks that is neither live nor held.

abbrev pub number_given : List ℕ → NumberFacts → TakeIdent → Option ℕ
number_given team facts c = elim c.want [
  | Some n ↦ Some n
  | None ↦ least_free facts.taken (blocks_of facts.blocks team (block_form c.form)) (number_form c.form)
]

abbrev pub want_tests : List ℕ → NumberFacts → TakeIdent → List (Test Refusal)
want_tests team facts c = elim c.want [
  | Some n ↦
      when (not (has_form (number_form c.form) n && lies_in n (blocks_of facts.blocks team (block_form c.form))))
      no.OutsideBlock
      ∷ when facts.want_live no.IdentTaken
      ∷ when facts.want_held no.Held ∷ []
  | None ↦ when (is_none (number_given team facts c)) no.BlockFull ∷ []
]

abbrev pub take_ident_tests : List ℕ → NumberFacts → TakeIdent → List (Test Refusal)
take_ident_tests team facts c =
    name_tests facts c.message
    ++ when (none_of (blocks_of facts.blocks team (block_form c.form))) no.NoBlock
    ∷ want_tests team facts c

abbrev pub take_ident : List ℕ → Option Net → TakeIdent → Outcome
take_ident team net c =
    unless (on_net net (λ n. take_ident_tests team (ident_facts n c.message.name c.form c.want) c))
    (given_or no.NoNet net (λ n.
    given_or no.BlockFull (number_given team (ident_facts n c.message.name c.form c.want) c) (λ number.
    Changing (Number number) (with_message n (new_message team c.message (ident_of c.form number))) no_entries)))

-- Take a parameter group: the least of the team's blocks that has a destination address, or has none, and that no live
-- and no held 29-bit identifier has. The message's identifier is that of the group with the priority, the source, and
-- the destination where the group has one: 255, which is every node, where none is given (SAE J1939-21).

abbrev pub group_given : List ℕ → NumberFacts → TakePgn → Option ℕ
group_given team facts c = least_free facts.taken (blocks_of facts.blocks team Pgn) (group_form c.pdu)

abbrev pub take_pgn_tests : List ℕ → NumberFacts → TakePgn → List (Test Refusal)
take_pgn_tests team facts c =
    when (not (is_j1939 facts.kind)) no.NotJ1939
    ∷ name_tests facts c.message
    ++ when (none_of (blocks_of facts.blocks team Pgn)) no.NoBlock
    ∷ when (is_none (group_given team facts c)) no.BlockFull ∷ []

abbrev pub address_of : Pdu → ℕ
address_of (Addressed destination) = unwrap_or destination 255
address_of Broadcast = 255

abbrev pub ident_with : TakePgn → ℕ → Ident
ident_with c pgn = id.Ext (number_of (fields_with c.priority pgn (address_of c.pdu) c.source))

abbrev pub take_pgn : List ℕ → Option Net → TakePgn → Outcome
take_pgn team net c =
    unless (on_net net (λ n. take_pgn_tests team (group_facts n c.message.name) c))
    (given_or no.NoNet net (λ n.
    given_or no.BlockFull (group_given team (group_facts n c.message.name) c) (λ pgn.
    Changing (Number pgn) (with_message n (new_message team c.message (ident_with c pgn))) no_entries)))
