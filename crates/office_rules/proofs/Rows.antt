-- Worked examples of commands without a file, computed from the definitions.
use Rattle.office_rules.proofs.Common.{◌≡◌, ◌+◌, ℕ, List, [], ◌∷◌, map, Option, Some, None, refl, subst, codes, Intel}
use Rattle.office_rules.proofs.Common.{Always, Standard, Ident, roster_limit, empty_sheet, Sheet, Signal, ValueText}
use Rattle.office_rules.proofs.Common.{Can, J1939, Broadcast, Reply, Done, Number, Counts, Release, Refused, Net}
use Rattle.std.proofs.Common.{◌/◌, sym}
use Rattle.std.proofs.lemmas.Bool.{true≢false}
use Rattle.std.specs.List.{range_with_len}
use Rattle.std.specs.Prelude.{◌%◌}
use Rattle.base.specs.Refusing.{first_refusal}
use Rattle.bitlayout.specs.Bits.{walk, shares_bit, is_inside}
use Rattle.bitlayout.specs.Clash.{clash_after}
use Rattle.bitlayout.specs.First.{first_answer}
use Rattle.bitlayout.specs.declared.layout.Order.TheVariants.{Motorola}
use Rattle.bitlayout.specs.declared.place.Mux.TheVariants.{Multiplexor, Under}
use Rattle.can_id.specs.declared.ident.Ident.TheVariants as id
use Rattle.dbc_words.specs.declared.fault.SheetCode.{SheetCode}
use Rattle.dbc_words.specs.declared.fault.SheetCode.TheVariants.{DoubleName}
use Rattle.dbc_sheet.specs.Sheet.{node_name}
use Rattle.dbc_sheet.specs.Signals.{signal_tests}
use Rattle.office_types.specs.declared.block.BlockForm.TheVariants as block
use Rattle.office_types.specs.declared.change.Change.TheVariants.{AddSignal, RemoveSignal, SetBlock}
use Rattle.office_types.specs.declared.command.Action.TheVariants as act
use Rattle.office_types.specs.declared.command.Pdu.TheVariants.{Addressed}
use Rattle.office_types.specs.declared.refusal.Refusal.TheVariants as no
use Rattle.office_types.specs.declared.reply.Reply.TheVariants.{Start, Bundle}
use Rattle.office_types.specs.declared.reply.PartReply.TheVariants as part
use Rattle.office_types.specs.declared.state.LiveMessage.{LiveMessage}
use Rattle.office_types.specs.declared.state.Phase.TheVariants.{Draft}
use Rattle.office_rules.specs.Change.{Fits, HaveOwnBlocks, net_changed}
use Rattle.office_rules.specs.Opening.{bare_net}
use Rattle.office_rules.specs.Signals.{new_signal}
use Rattle.office_rules.specs.Step.{opening}
use Rattle.office_rules.proofs.TeamCommand.{Requested, adds, requests, bits, brake, bundles, engine, grants, imports}
use Rattle.office_rules.proofs.TeamCommand.{left_by, message, named, number, office, on_bus, opens, path, removes}
use Rattle.office_rules.proofs.TeamCommand.{replies_to, sets_values, setup, takes, takes_bits, takes_ext, takes_group}
use Rattle.office_rules.proofs.TeamCommand.{takes_spn, truck}

full : replies_to opening
    (setup (takes engine (codes "E1") None ∷ takes engine (codes "E2") None ∷ takes engine (codes "E3") None
    ∷ takes engine (codes "E4") None ∷ []))
    ≡ Done ∷ Done ∷ Number 256 ∷ Number 257 ∷ Number 258 ∷ Refused no.BlockFull ∷ []
full = refl

blocks : replies_to opening
    (setup (grants engine block.Std 258 300 ∷ grants engine block.Ext 258 300 ∷ grants engine block.Pgn 0 5
    ∷ grants engine block.Spn 1 5 ∷ grants engine block.Spn 5 9 ∷ []))
    ≡ Done ∷ Done ∷ Refused no.BlockTaken ∷ Done ∷ Refused no.NotJ1939 ∷ Done ∷ Refused no.BlockTaken ∷ []
blocks = refl

wanted : replies_to opening
    (setup (takes engine (codes "E1") (Some 300) ∷ takes engine (codes "E1") (Some 257) ∷ takes engine (codes "E2")
    (Some 257) ∷ takes engine (codes "E1") None ∷ takes brake (codes "E3") None ∷ takes engine (codes "E3") None ∷ []))
    ≡ Done ∷ Done ∷ Refused no.OutsideBlock ∷ Number 257 ∷ Refused no.IdentTaken ∷ Refused no.NameTaken
    ∷ Refused no.NoBlock ∷ Number 256 ∷ []
wanted = refl

-- a number that a release has is held when its message goes; another one is free again
held : replies_to opening (setup (
    takes engine (codes "E1") None
    ∷ takes engine (codes "E2") None
    ∷ requests engine (act.Retire (codes "E1"))
    ∷ takes engine (codes "E3") None
    ∷ requests engine act.Submit
    ∷ requests office act.Release
    ∷ requests engine (act.Retire (codes "E2"))
    ∷ takes engine (codes "E4") None
    ∷ takes engine (codes "E5") (Some 257) ∷ []))
    ≡ Done ∷ Done ∷ Number 256 ∷ Number 257 ∷ Done ∷ Number 256 ∷ Done ∷ Release 1 ∷ Done ∷ Number 258 ∷ Refused no.Held
    ∷ []
held = refl

groups : replies_to opening (
    opens J1939 0
    ∷ grants engine block.Pgn 61184 61440
    ∷ takes_group (codes "A") (Addressed None)
    ∷ takes_group (codes "B") Broadcast
    ∷ takes_group (codes "C") (Addressed None)
    ∷ takes_group (codes "D") Broadcast ∷ [])
    ≡ Done ∷ Done ∷ Number 61184 ∷ Number 61440 ∷ Refused no.BlockFull ∷ Refused no.BlockFull ∷ []
groups = refl

-- identifiers of 29 bits have blocks and numbers of their own, and no wanted number is of the other form
extended : replies_to opening (setup (
    grants engine block.Ext 256 257
    ∷ grants engine block.Ext 4096 4097
    ∷ takes engine (codes "E1") None
    ∷ takes_ext (codes "E2") None
    ∷ takes_ext (codes "E3") (Some 4096)
    ∷ takes engine (codes "E4") (Some 4096)
    ∷ takes_ext (codes "E4") (Some 258)
    ∷ takes_ext (codes "E4") None
    ∷ takes_ext (codes "E5") None
    ∷ takes_ext (codes "E6") None ∷ []))
    ≡ Done ∷ Done ∷ Done ∷ Done ∷ Number 256 ∷ Number 256 ∷ Number 4096 ∷ Refused no.OutsideBlock
    ∷ Refused no.OutsideBlock ∷ Number 257 ∷ Number 4097 ∷ Refused no.BlockFull ∷ []
extended = refl

-- nor is one above the form given, if a block had it (no value of the type of blocks has)
above_the_form : replies_to opening
    (opens Can 0 ∷ grants engine block.Std 2047 2050 ∷ takes engine (codes "E1") (Some 2048) ∷ takes engine (codes "E1")
    None ∷ takes engine (codes "E2") None ∷ [])
    ≡ Done ∷ Done ∷ Refused no.OutsideBlock ∷ Number 2047 ∷ Refused no.BlockFull ∷ []
above_the_form = refl

abbrev idents_of : List Net → List (List Ident)
idents_of nets = map (λ net. map (λ m. m.message.ident) net.live) nets

-- the identifiers of priority 6 and source 0 (SAE J1939-21): 18EF2100 goes to address 33, 18EFFF00 and 18F00000 to all
built : idents_of (left_by opening (
    opens J1939 0
    ∷ grants engine block.Pgn 61184 61184
    ∷ takes_group (codes "A") (Addressed (Some 33)) ∷ [])).nets
    ≡ (id.Ext 418324736 ∷ []) ∷ []
built = refl

built_for_all : idents_of (left_by opening (
    opens J1939 0
    ∷ grants engine block.Pgn 61184 61440
    ∷ takes_group (codes "A") (Addressed None)
    ∷ takes_group (codes "B") Broadcast ∷ [])).nets
    ≡ (id.Ext 418381568 ∷ id.Ext 418381824 ∷ []) ∷ []
built_for_all = refl

-- one destination more is no other group
one_group : replies_to opening (
    opens J1939 0
    ∷ grants engine block.Pgn 61184 61184
    ∷ takes_group (codes "A") (Addressed (Some 33))
    ∷ takes_group (codes "B") (Addressed (Some 34)) ∷ [])
    ≡ Done ∷ Done ∷ Number 61184 ∷ Refused no.BlockFull ∷ []
one_group = refl

-- Networks and nodes.

-- each command wants its network
no_net : replies_to opening (
    grants engine block.Std 1 2
    ∷ adds (codes "ECU")
    ∷ takes engine (codes "E1") None
    ∷ takes_group (codes "E1") Broadcast
    ∷ takes_spn (codes "P") None
    ∷ takes_bits (codes "P") 8 Intel Always None
    ∷ sets_values (codes "P") []
    ∷ removes (codes "P")
    ∷ requests engine (act.Retire (codes "E1"))
    ∷ imports engine empty_sheet
    ∷ requests engine act.Submit
    ∷ requests engine act.Approve
    ∷ requests engine act.Reject
    ∷ requests office act.Release ∷ [])
    ≡ map Refused (no.NoNet ∷ no.NoNet ∷ no.NoNet ∷ no.NoNet ∷ no.NoNet ∷ no.NoNet ∷ no.NoNet ∷ no.NoNet ∷ no.NoNet
    ∷ no.NoNet ∷ no.NoNet ∷ no.NoNet ∷ no.NoNet ∷ no.NoNet ∷ [])
no_net = refl

opened_twice : replies_to opening
    (opens Can 0 ∷ opens J1939 2 ∷ record (opens Can 0) { team = engine } ∷ on_bus (opens J1939 2) ∷ [])
    ≡ Done ∷ Refused no.NetThere ∷ Refused no.NotOffice ∷ Done ∷ []
opened_twice = refl

abbrev node_names : List Net → List (List (List ℕ))
node_names nets = map (λ net. map node_name net.head.frame.nodes) nets

abbrev from_ecu : Requested
from_ecu = requests engine
    (act.TakeIdent (record {
      form = Standard;
      message = record (named (codes "E1")) { node = Some (codes "ECU") };
      want = None;
    }))

nodes_added : replies_to opening (setup (
    from_ecu
    ∷ adds (codes "ECU")
    ∷ adds (codes "ECU")
    ∷ adds (codes "Dash")
    ∷ from_ecu
    ∷ requests engine act.Submit
    ∷ adds (codes "Lamp") ∷ []))
    ≡ Done ∷ Done ∷ Refused no.NoNode ∷ Done ∷ Refused no.NameTaken ∷ Done ∷ Number 256 ∷ Done ∷ Refused no.InReview
    ∷ []
nodes_added = refl

nodes_left : node_names (left_by opening (setup (adds (codes "ECU") ∷ adds (codes "Dash") ∷ []))).nets
    ≡ (codes "ECU" ∷ codes "Dash" ∷ []) ∷ []
nodes_left = refl

-- as many nodes as a network can have: NAAA, NAAB, .. NPPP
abbrev full_roster : Sheet
full_roster = record empty_sheet {
  nodes = map (λ (n : ℕ). record {
    name = 78 ∷ (65 + n / 256) ∷ (65 + (n / 16) % 16) ∷ (65 + n % 16) ∷ [];
    comment =
        [];
  }) (range_with_len 0 roster_limit);
}

no_node_more : replies_to opening
    (opens Can 0 ∷ imports office full_roster ∷ adds (codes "NPPP") ∷ adds (codes "ECU") ∷ [])
    ≡ Done ∷ Counts 0 0 ∷ Refused no.NameTaken ∷ Refused no.TooMany ∷ []
no_node_more = refl

-- Reviews.

reviewed : replies_to opening (
    opens Can 1
    ∷ grants engine block.Std 256 258
    ∷ requests engine act.Submit
    ∷ requests engine act.Approve
    ∷ requests office act.Release
    ∷ takes engine (codes "E1") None
    ∷ requests brake act.Approve
    ∷ requests engine act.Release
    ∷ requests office act.Release
    ∷ requests office act.Release ∷ [])
    ≡ Done ∷ Done ∷ Done ∷ Refused no.OwnReview ∷ Refused no.NeedsMore ∷ Refused no.InReview ∷ Done
    ∷ Refused no.NotOffice ∷ Release 1 ∷ Refused no.NotInReview ∷ []
reviewed = refl

-- a review that is turned down leaves a draft, and no approval
turned_down : replies_to opening (
    opens Can 1
    ∷ grants engine block.Std 256 258
    ∷ requests brake act.Reject
    ∷ requests engine act.Submit
    ∷ requests (codes "body") act.Approve
    ∷ requests engine act.Reject
    ∷ requests brake act.Reject
    ∷ takes engine (codes "E1") None
    ∷ requests engine act.Submit
    ∷ requests office act.Release
    ∷ requests brake act.Approve
    ∷ requests office act.Release ∷ [])
    ≡ Done ∷ Done ∷ Refused no.NotInReview ∷ Done ∷ Done ∷ Refused no.OwnReview ∷ Done ∷ Number 256 ∷ Done
    ∷ Refused no.NeedsMore ∷ Done ∷ Release 1 ∷ []
turned_down = refl

-- two approvals are those of two teams
approved_by_two : replies_to opening (
    opens Can 2
    ∷ requests engine act.Submit
    ∷ requests brake act.Approve
    ∷ requests brake act.Approve
    ∷ requests office act.Release
    ∷ requests (codes "body") act.Approve
    ∷ requests office act.Release ∷ [])
    ≡ Done ∷ Done ∷ Done ∷ Done ∷ Refused no.NeedsMore ∷ Done ∷ Release 1 ∷ []
approved_by_two = refl

approvals_left : map (λ net. net.approvals) (left_by opening (
    opens Can 2
    ∷ requests engine act.Submit
    ∷ requests brake act.Approve
    ∷ requests brake act.Approve
    ∷ requests (codes "body") act.Approve ∷ [])).nets
    ≡ (codes "body" ∷ brake ∷ []) ∷ []
approvals_left = refl

-- Signals: a message, four signals of it, and what is refused after them.

abbrev with_bits : List Requested → List Requested
with_bits qs =
    opens Can 0
    ∷ grants engine block.Std 256 258
    ∷ takes engine (codes "E1") None
    ∷ takes_bits (codes "Sel") 4 Intel Multiplexor None
    ∷ takes_bits (codes "P") 8 Intel (Under 0) None
    ∷ takes_bits (codes "Q") 8 Intel (Under 1) None
    ∷ takes_bits (codes "R") 8 Motorola Always None
    ∷ qs

abbrev bits_given : List Reply → List Reply
bits_given rs = Done ∷ Done ∷ Number 256 ∷ Start 0 ∷ Start 4 ∷ Start 4 ∷ Start 16 ∷ rs

bits_refused : replies_to opening (with_bits (
    takes_bits (codes "T") 64 Intel Always None
    ∷ takes_bits (codes "U") 2 Intel Always (Some 63)
    ∷ takes_bits (codes "V") 1 Intel Always (Some 0)
    ∷ takes_bits (codes "W") 1 Intel Multiplexor None
    ∷ requests engine (act.RemoveSignal (path (codes "E1") (codes "Sel"))) ∷ []))
    ≡ bits_given (Refused no.NoRoom ∷ Refused no.OutsidePayload ∷ Refused no.Clash ∷ Refused no.TwoMultiplexors
    ∷ Refused no.NoMultiplexor ∷ [])
unfolding walk shares_bit is_inside clash_after first_answer
bits_refused = refl

spns_taken : replies_to opening (with_bits (
    grants engine block.Spn 500 501
    ∷ takes_spn (codes "P") None
    ∷ takes_spn (codes "Q") None
    ∷ takes_spn (codes "R") None
    ∷ takes_spn (codes "R") (Some 502)
    ∷ takes_spn (codes "R") (Some 500) ∷ []))
    ≡ bits_given (Done ∷ Number 500 ∷ Number 501 ∷ Refused no.BlockFull ∷ Refused no.NoSpn ∷ Number 500 ∷ [])
unfolding walk shares_bit is_inside clash_after first_answer
spns_taken = refl

-- the message, the signal and the team must be there and right
signals_refused : replies_to opening (with_bits (
    requests engine (act.RemoveSignal (path (codes "E9") (codes "P")))
    ∷ requests engine (act.Retire (codes "E9"))
    ∷ record (takes_bits (codes "T") 8 Intel Always None) { team = brake }
    ∷ record (removes (codes "P")) { team = brake }
    ∷ requests brake (act.Retire (codes "E1"))
    ∷ takes_spn (codes "X") None
    ∷ sets_values (codes "X") []
    ∷ removes (codes "X")
    ∷ takes_bits (codes "P") 8 Intel Always None ∷ []))
    ≡ bits_given (Refused no.NoMessage ∷ Refused no.NoMessage ∷ Refused no.NotOwner ∷ Refused no.NotOwner
    ∷ Refused no.NotOwner ∷ Refused no.NoSignal ∷ Refused no.NoSignal ∷ Refused no.NoSignal ∷ Refused no.NameTaken
    ∷ [])
unfolding walk shares_bit is_inside clash_after first_answer
signals_refused = refl

abbrev received : Requested
received = requests engine
    (act.TakeBits (record (bits (codes "S") 4 Intel Always None) { receivers = codes "Dash" ∷ [] }))

receiver_wanted : replies_to opening
    (setup (takes engine (codes "E1") None ∷ received ∷ adds (codes "Dash") ∷ received ∷ []))
    ≡ Done ∷ Done ∷ Number 256 ∷ Refused no.NoNode ∷ Done ∷ Start 0 ∷ []
unfolding walk shares_bit is_inside clash_after first_answer
receiver_wanted = refl

-- a signal that is taken out gives its bits free; the multiplexor goes after the signals under it
signals_removed : replies_to opening (with_bits (
    removes (codes "P")
    ∷ removes (codes "Sel")
    ∷ removes (codes "Q")
    ∷ removes (codes "Sel")
    ∷ takes_bits (codes "T") 8 Intel Always None
    ∷ takes_bits (codes "P") 8 Intel (Under 0) None ∷ []))
    ≡ bits_given (Done ∷ Refused no.NoMultiplexor ∷ Done ∷ Done ∷ Start 0 ∷ Refused no.NoMultiplexor ∷ [])
unfolding walk shares_bit is_inside clash_after first_answer
signals_removed = refl

abbrev signal_names : List Net → List (List (List (List ℕ)))
signal_names nets = map (λ net. map (λ m. map (λ s. s.name) m.message.signals) net.live) nets

signals_left : signal_names (left_by opening (with_bits (removes (codes "P") ∷ []))).nets
    ≡ ((codes "Sel" ∷ codes "Q" ∷ codes "R" ∷ []) ∷ []) ∷ []
unfolding walk shares_bit is_inside clash_after first_answer
signals_left = refl

abbrev off_on : List ValueText
off_on = record { value = number 0; text = codes "Off" } ∷ record { value = number 1; text = codes "On" } ∷ []

abbrev value_texts : List Net → List (List (List (List ValueText)))
value_texts nets = map (λ net. map (λ m. map (λ s. s.values) m.message.signals) net.live) nets

-- value texts come in place of those that were there, of the named signal alone
values_set : value_texts
    (left_by opening (with_bits
    (sets_values (codes "P") off_on ∷ sets_values (codes "Q") off_on ∷ sets_values (codes "P") [] ∷ []))).nets
    ≡ (([] ∷ [] ∷ off_on ∷ [] ∷ []) ∷ []) ∷ []
unfolding walk shares_bit is_inside clash_after first_answer
values_set = refl

values_answered : replies_to opening
    (with_bits (sets_values (codes "P") off_on ∷ requests engine act.Submit ∷ sets_values (codes "P") [] ∷ []))
    ≡ bits_given (Done ∷ Done ∷ Refused no.InReview ∷ [])
unfolding walk shares_bit is_inside clash_after first_answer
values_answered = refl

-- blocks of suspect parameter numbers are the whole office's, and a team takes from those of the network alone
spns_of_two_nets : replies_to opening (with_bits (
    on_bus (opens Can 0)
    ∷ grants engine block.Spn 500 501
    ∷ on_bus (grants engine block.Spn 501 509)
    ∷ on_bus (grants engine block.Spn 502 509)
    ∷ takes_spn (codes "P") None
    ∷ takes_spn (codes "Q") None
    ∷ takes_spn (codes "R") None ∷ []))
    ≡ bits_given (Done ∷ Done ∷ Refused no.BlockTaken ∷ Done ∷ Number 500 ∷ Number 501 ∷ Refused no.BlockFull ∷ [])
unfolding walk shares_bit is_inside clash_after first_answer
spns_of_two_nets = refl

block_elsewhere : replies_to opening
    (with_bits (on_bus (opens Can 0) ∷ on_bus (grants engine block.Spn 500 501) ∷ takes_spn (codes "P") None ∷ []))
    ≡ bits_given (Done ∷ Done ∷ Refused no.NoBlock ∷ [])
unfolding walk shares_bit is_inside clash_after first_answer
block_elsewhere = refl

block_of_identifiers : HaveOwnBlocks
    (SetBlock (record { block = record { form = block.Std; first = 256; last = 258 }; team = engine }) ∷ [])
block_of_identifiers = (refl, tt)

block_of_spns : HaveOwnBlocks
    (SetBlock (record { block = record { form = block.Spn; first = 500; last = 501 }; team = engine }) ∷ []) → ⊥
block_of_spns blocks = true≢false blocks.0

-- Changes of one signal, on a network of one message.

abbrev byte_at : List ℕ → ℕ → Signal
byte_at name start = new_signal (bits name 8 Intel Always None) start

abbrev with_e1 : List Signal → Net
with_e1 signals = record (bare_net truck (record { kind = Can; reviews = 0; phase = Draft; frame = empty_sheet })) {
  live = record { message = message (id.Std 256) (codes "E1") signals; owner = engine } ∷ [];
}

signal_added : net_changed (AddSignal (codes "E1") (byte_at (codes "Q") 8)) (with_e1 (byte_at (codes "P") 0 ∷ []))
    ≡ with_e1 (byte_at (codes "P") 0 ∷ byte_at (codes "Q") 8 ∷ [])
signal_added = refl

signal_out : net_changed (RemoveSignal (path (codes "E1") (codes "P")))
    (with_e1 (byte_at (codes "P") 0 ∷ byte_at (codes "Q") 8 ∷ [])) ≡ with_e1 (byte_at (codes "Q") 8 ∷ [])
signal_out = refl

-- nothing changes where the message isn't there
not_there : net_changed (AddSignal (codes "E2") (byte_at (codes "P") 0)) (with_e1 []) ≡ with_e1 []
not_there = refl

not_there_either : net_changed (RemoveSignal (path (codes "E2") (codes "P"))) (with_e1 (byte_at (codes "P") 0 ∷ []))
    ≡ with_e1 (byte_at (codes "P") 0 ∷ [])
not_there_either = refl

-- a signal fits a message that is there and has no signal of its name
signal_fits : Fits (AddSignal (codes "E1") (byte_at (codes "Q") 8)) (Some (with_e1 (byte_at (codes "P") 0 ∷ [])))
signal_fits = (
  record { message = message (id.Std 256) (codes "E1") (byte_at (codes "P") 0 ∷ []); owner = engine },
  refl,
  refl,
)

no_message : Fits (AddSignal (codes "E2") (byte_at (codes "P") 0)) (Some (with_e1 [])) → ⊥
no_message fits = let none : ◌≡◌ {A = Option LiveMessage} None (Some fits.0) = fits.1 in cc

of_one_name : Fits (AddSignal (codes "E1") (byte_at (codes "P") 8)) (Some (with_e1 (byte_at (codes "P") 0 ∷ []))) → ⊥
of_one_name fits =
    let m : LiveMessage = record {
      message = message (id.Std 256) (codes "E1") (byte_at (codes "P") 0 ∷ []);
      owner =
          engine;
    } in
    let found : ◌≡◌ {A = Option LiveMessage} (Some m) (Some fits.0) = fits.1 in
    let same : m ≡ fits.0 = cc in
    let passed : ◌≡◌ {A = Option SheetCode} (Some DoubleName) None =
    subst (λ (l : LiveMessage). first_refusal (signal_tests l.message.signals (byte_at (codes "P") 8)) ≡ None)
    (sym same) fits.2 in
    cc

-- Bundles: all parts or none, and a part finds what the earlier ones left.

bundle : replies_to opening
    (setup (bundles engine (takes engine (codes "E1") None ∷ takes_bits (codes "P") 8 Intel Always None ∷ [])
    ∷ takes engine (codes "E2") None ∷ []))
    ≡ Done ∷ Done ∷ Bundle (part.Number 256 ∷ part.Start 0 ∷ []) ∷ Number 257 ∷ []
unfolding walk shares_bit is_inside clash_after first_answer
bundle = refl

-- the third part has the name of the first; then nothing has changed
bundle_refused : replies_to opening
    (setup (bundles engine (takes engine (codes "E1") None ∷ takes engine (codes "E2") None ∷ takes engine (codes "E1")
    None ∷ []) ∷ takes engine (codes "E9") None ∷ []))
    ≡ Done ∷ Done ∷ Refused (no.BundleRefused (record { fault = 50; at = 3 })) ∷ Number 256 ∷ []
bundle_refused = refl

bundle_too_large : replies_to opening
    (setup (bundles engine (takes engine (codes "E1") None ∷ takes engine (codes "E2") None ∷ takes engine (codes "E3")
    None ∷ takes engine (codes "E4") None ∷ []) ∷ []))
    ≡ Done ∷ Done ∷ Refused (no.BundleRefused (record { fault = 48; at = 4 })) ∷ []
bundle_too_large = refl

-- a bundle may open its network
opened : replies_to opening
    (bundles office (opens Can 0 ∷ grants engine block.Std 256 258 ∷ []) ∷ takes engine (codes "E1") None ∷ [])
    ≡ Bundle (part.Done ∷ part.Done ∷ []) ∷ Number 256 ∷ []
opened = refl
