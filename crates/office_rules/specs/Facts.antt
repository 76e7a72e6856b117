-- What a network has, as the tests of commands need it.
use Rattle.std.specs.Prelude.{ℕ, Bool, true, false, ◌&&◌, ◌==◌, nat_le, List, [], ◌∷◌, ◌++◌, map, filter, find, length}
use Rattle.std.specs.Prelude.{Option, Some, None}
use Rattle.std.specs.List.{list_any, filter_map}
use Rattle.std.specs.Str.{bytes_eq}
use Rattle.can_id.specs.Ident.{dbc_number, ident_of}
use Rattle.can_id.specs.J1939.{fields_of, pgn_of}
use Rattle.can_id.specs.declared.form.IdentForm.{IdentForm}
use Rattle.can_id.specs.declared.form.IdentForm.TheVariants.{Standard, Extended}
use Rattle.can_id.specs.declared.ident.Ident.{Ident}
use Rattle.can_id.specs.declared.ident.Ident.TheVariants as id
use Rattle.dbc_words.specs.Limits.{message_limit}
use Rattle.dbc_words.specs.Named.{has_name}
use Rattle.dbc_sheet.specs.Messages.{has_number}
use Rattle.dbc_sheet.specs.Sheet.{node_name}
use Rattle.dbc_sheet.specs.declared.node.Node.{Node}
use Rattle.dbc_sheet.specs.declared.sheet.Sheet.{Sheet}
use Rattle.office_types.specs.Block.{Range, in_block, same_form, have_common}
use Rattle.office_types.specs.declared.block.Block.{Block}
use Rattle.office_types.specs.declared.block.BlockForm.{BlockForm}
use Rattle.office_types.specs.declared.block.BlockForm.TheVariants.{Spn}
use Rattle.office_types.specs.declared.book.SpnBlock.{SpnBlock}
use Rattle.office_types.specs.declared.book.SpnBook.{SpnBook}
use Rattle.office_types.specs.declared.command.NetKind.{NetKind}
use Rattle.office_types.specs.declared.command.NetKind.TheVariants.{Can, J1939}
use Rattle.office_types.specs.declared.state.GrantedBlock.{GrantedBlock}
use Rattle.office_types.specs.declared.state.LiveMessage.{LiveMessage}
use Rattle.office_types.specs.declared.state.Net.{Net}
use Rattle.office_types.specs.declared.state.Phase.{Phase}
use Rattle.office_types.specs.declared.state.Phase.TheVariants.{Draft, Review}

-- The head.

abbrev pub is_j1939 : NetKind → Bool
is_j1939 Can = false
is_j1939 J1939 = true

abbrev pub in_review : Phase → Bool
in_review Draft = false
in_review (Review submitter) = true

-- the team requested the review
abbrev pub is_submitter : List ℕ → Phase → Bool
is_submitter team Draft = false
is_submitter team (Review submitter) = bytes_eq submitter team

abbrev pub has_node : List Node → List ℕ → Bool
has_node nodes name = has_name node_name nodes name

-- no node at all, or one of these
abbrev pub knows_node : List Node → Option (List ℕ) → Bool
knows_node nodes None = true
knows_node nodes (Some name) = has_node nodes name

-- Live messages, and identifiers.

abbrev pub live_name : LiveMessage → List ℕ
live_name m = m.message.name

-- a live message has the name
abbrev pub is_named : Net → List ℕ → Bool
is_named net name = has_name live_name net.live name

-- the live message of a name
abbrev pub live_named : List LiveMessage → List ℕ → Option LiveMessage
live_named live name = find (λ m. bytes_eq m.message.name name) live

abbrev pub same_ident : Ident → Ident → Bool
same_ident (id.Std a) (id.Std b) = a == b
same_ident (id.Ext a) (id.Ext b) = a == b
same_ident a b = false

abbrev pub has_ident : Ident → LiveMessage → Bool
has_ident i m = same_ident m.message.ident i

-- a live message has the identifier
abbrev pub is_live : Net → Ident → Bool
is_live net i = list_any (has_ident i) net.live

abbrev pub is_held : Net → Ident → Bool
is_held net i = list_any (λ held. same_ident held i) net.held

-- a release has a message of the identifier
abbrev pub was_released : List Sheet → Ident → Bool
was_released releases i = list_any (λ s. has_number s.messages (dbc_number i)) releases

-- the last release has one
abbrev pub in_last : List Sheet → Ident → Bool
in_last [] i = false
in_last (s ∷ []) i = has_number s.messages (dbc_number i)
in_last (s ∷ t ∷ releases) i = in_last (t ∷ releases) i

-- the identifiers that may not be given out: live ones, then held ones
abbrev pub taken_idents : Net → List Ident
taken_idents net = map (λ m. m.message.ident) net.live ++ net.held

-- the number of an identifier of the form
abbrev pub number_in : IdentForm → Ident → Option ℕ
number_in Standard (id.Std n) = Some n
number_in Extended (id.Ext n) = Some n
number_in form i = None

-- the identifiers of a form that may not be given out, as numbers
abbrev pub taken_numbers : Net → IdentForm → List ℕ
taken_numbers net form = filter_map (number_in form) (taken_idents net)

-- the parameter group of a 29-bit identifier
abbrev pub group_of : Ident → Option ℕ
group_of (id.Std n) = None
group_of (id.Ext n) = Some (pgn_of (fields_of n))

-- the parameter groups that may not be given out: those of live and of held identifiers, from whatever source
abbrev pub taken_groups : Net → List ℕ
taken_groups net = filter_map group_of (taken_idents net)

-- Blocks.

abbrev pub numbers_of : Range → Block
numbers_of r = record { first = r.first; last = r.last }

-- the numbers of the team's blocks of a form
abbrev pub blocks_of : List GrantedBlock → List ℕ → BlockForm → List Block
blocks_of blocks team form =
    map (λ g. numbers_of g.block) (filter (λ g. same_form g.block.form form && bytes_eq g.team team) blocks)

-- a block of suspect parameter numbers, with its form
abbrev pub spn_range : SpnBlock → Range
spn_range b = record { form = Spn; first = b.first; last = b.last }

-- the suspect parameter numbers of the team's blocks on the network of this name
abbrev pub spn_blocks_of : SpnBook → List ℕ → List ℕ → List Block
spn_blocks_of book name team =
    map (λ b. numbers_of (spn_range b)) (filter (λ b. bytes_eq b.net name && bytes_eq b.team team) book.blocks)

abbrev pub lies_in : ℕ → List Block → Bool
lies_in n blocks = list_any (in_block n) blocks

-- a block of the form has a number in common with this one
abbrev pub is_granted : Net → Range → Bool
is_granted net r = list_any (λ g. have_common g.block r) net.blocks

-- a block of suspect parameter numbers has one, on whatever network
abbrev pub is_spn_granted : SpnBook → Range → Bool
is_spn_granted book r = list_any (λ b. have_common (spn_range b) r) book.blocks

-- What the commands on a signal read of a network: whether it is in review, its nodes, and the message that they name,
-- with its owner, where it is live.
pub record MessageFacts : Type 0 where
  pub phase : Phase
  pub nodes : List Node
  pub found : Option LiveMessage

abbrev pub message_facts : Net → List ℕ → MessageFacts
message_facts net name =
    record { phase = net.head.phase; nodes = net.head.frame.nodes; found = live_named net.live name }

-- it has as many live messages as a network may have
abbrev pub is_full : Net → Bool
is_full net = nat_le message_limit (length net.live)

-- What the commands that give out a number for a new message read of a network: besides its kind, phase, nodes and
-- blocks, whether the message's name is live, whether the network has as many messages as it may have, whether the
-- wanted number is live or held, and which numbers may not be given out.
pub record NumberFacts : Type 0 where
  pub kind : NetKind
  pub phase : Phase
  pub nodes : List Node
  pub blocks : List GrantedBlock
  pub named : Bool
  pub full : Bool
  pub want_live : Bool
  pub want_held : Bool
  pub taken : List ℕ

-- the wanted identifier, if there is one, passes the test
abbrev pub is_wanted : (Ident → Bool) → IdentForm → Option ℕ → Bool
is_wanted p form None = false
is_wanted p form (Some n) = p (ident_of form n)

abbrev pub ident_facts : Net → List ℕ → IdentForm → Option ℕ → NumberFacts
ident_facts net name form want = record {
  kind = net.head.kind;
  phase = net.head.phase;
  nodes = net.head.frame.nodes;
  blocks = net.blocks;
  named = is_named net name;
  full = is_full net;
  want_live = is_wanted (is_live net) form want;
  want_held = is_wanted (is_held net) form want;
  taken = taken_numbers net form;
}

-- no number of a parameter group can be wanted
abbrev pub group_facts : Net → List ℕ → NumberFacts
group_facts net name = record {
  kind = net.head.kind;
  phase = net.head.phase;
  nodes = net.head.frame.nodes;
  blocks = net.blocks;
  named = is_named net name;
  full = is_full net;
  want_live = false;
  want_held = false;
  taken = taken_groups net;
}
