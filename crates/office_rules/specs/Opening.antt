-- Opening a network, granting a block, adding a node.
use Rattle.std.specs.Prelude.{ℕ, Bool, not, ◌&&◌, nat_le, List, [], ◌∷◌, ◌++◌, length, Option, is_some, if◌then◌else◌}
use Rattle.base.specs.Keyed.{put}
use Rattle.base.specs.Refusing.{Test}
use Rattle.dbc_words.specs.Limits.{node_limit}
use Rattle.dbc_sheet.specs.Sheet.{empty_sheet}
use Rattle.dbc_sheet.specs.declared.node.Node.{Node}
use Rattle.office_types.specs.Block.{is_spn, same_form}
use Rattle.office_types.specs.PlainName.{is_office}
use Rattle.office_types.specs.State.{by_first}
use Rattle.office_types.specs.declared.block.BlockForm.TheVariants.{Pgn}
use Rattle.office_types.specs.declared.book.SpnBook.{SpnBook}
use Rattle.office_types.specs.declared.command.Grant.{Grant}
use Rattle.office_types.specs.declared.command.OpenNet.{OpenNet}
use Rattle.office_types.specs.declared.refusal.Refusal.{Refusal}
use Rattle.office_types.specs.declared.refusal.Refusal.TheVariants as no
use Rattle.office_types.specs.declared.reply.Reply.TheVariants.{Done}
use Rattle.office_types.specs.declared.state.GrantedBlock.{GrantedBlock}
use Rattle.office_types.specs.declared.state.Head.{Head}
use Rattle.office_types.specs.declared.state.Net.{Net}
use Rattle.office_types.specs.declared.state.Phase.TheVariants.{Draft}
use Rattle.office_rules.specs.Facts.{is_j1939, in_review, has_node, is_granted, is_spn_granted}
use Rattle.office_rules.specs.Outcome.{Entries, no_entries, Outcome, Changing, when, on_net, unless, given_or}

-- Open a network: only `office` may, and where there is none of that name.

abbrev pub open_net_tests : List ℕ → Option Net → List (Test Refusal)
open_net_tests team net = when (not (is_office team)) no.NotOffice ∷ when (is_some net) no.NetThere ∷ []

-- a network with nothing but its head
abbrev pub bare_net : List ℕ → Head → Net
bare_net name h = record { name = name; head = h; live = []; blocks = []; held = []; approvals = []; releases = [] }

abbrev pub new_head : OpenNet → Head
new_head c = record { kind = c.kind; reviews = c.reviews; phase = Draft; frame = empty_sheet }

abbrev pub open_net : List ℕ → List ℕ → Option Net → OpenNet → Outcome
open_net team name net c = unless (open_net_tests team net) (Changing Done (bare_net name (new_head c)) no_entries)

-- Grant a block: its numbers may not be granted yet in that form on the network, suspect parameter numbers on none.

abbrev pub is_block_taken : Net → SpnBook → Grant → Bool
is_block_taken net book c = if is_spn c.block.form then is_spn_granted book c.block else is_granted net c.block

abbrev pub grant_tests : List ℕ → Option Net → SpnBook → Grant → List (Test Refusal)
grant_tests team net book c =
    when (not (is_office team)) no.NotOffice
    ∷ on_net net (λ n.
    when (same_form c.block.form Pgn && not (is_j1939 n.head.kind)) no.NotJ1939
    ∷ when (is_block_taken n book c) no.BlockTaken ∷ [])

abbrev pub with_block : Net → GrantedBlock → Net
with_block net g = record net { blocks = put by_first g net.blocks }

-- the block of suspect parameter numbers, which goes to the book
abbrev pub spn_entry : List ℕ → Grant → Entries
spn_entry name c = record no_entries
    { blocks = record { net = name; team = c.team; first = c.block.first; last = c.block.last } ∷ [] }

abbrev pub granted : List ℕ → Net → Grant → Outcome
granted name net c =
    if is_spn c.block.form then Changing Done net (spn_entry name c)
    else Changing Done (with_block net (record { block = c.block; team = c.team })) no_entries

abbrev pub grant : List ℕ → List ℕ → Option Net → SpnBook → Grant → Outcome
grant team name net book c = unless (grant_tests team net book c) (given_or no.NoNet net (λ n. granted name n c))

-- Add a node, as the last one.

abbrev pub add_node_tests : Option Net → List ℕ → List (Test Refusal)
add_node_tests net name =
    on_net net (λ n.
    when (in_review n.head.phase) no.InReview
    ∷ when (has_node n.head.frame.nodes name) no.NameTaken
    ∷ when (nat_le node_limit (length n.head.frame.nodes)) no.TooMany ∷ [])

abbrev pub with_node : Net → Node → Net
with_node net node =
    record net {
      head = record net.head
          { frame = record net.head.frame { nodes = net.head.frame.nodes ++ node ∷ [] } };
    }

abbrev pub add_node : Option Net → List ℕ → Outcome
add_node net name =
    unless (add_node_tests net name)
    (given_or no.NoNet net (λ n. Changing Done (with_node n (record { name = name; comment = [] })) no_entries))
