-- What a network keeps with a block more, with a node more, in another phase, and with an approval more.
use Rattle.office_law.proofs.Common.{◌≡◌, ◌<◌, ◌∙◌, true, false, ℕ, List, [], ◌∷◌, ◌++◌, length, Contains, inl, inr}
use Rattle.office_law.proofs.Common.{refl, sym, arith, IfSome, false≢true, nat_cmp_total, nat_list_cmp_total, on_total}
use Rattle.office_law.proofs.Common.{then_total, length-append, All-nil, All-push, All-weaker, bytes_eq-Decides}
use Rattle.office_law.proofs.Common.{bytes_eq, put, text_cmp, All-put, AllPairs-put, IsStrictlySortedBy-put}
use Rattle.office_law.proofs.Common.{roster_limit, apart_and_last, IsNode, IsSheet, node_name, Node, Sheet}
use Rattle.office_law.proofs.Common.{have_common-comm, IsRange, have_common, is_spn, same_form, IsPlainName, sheet_of}
use Rattle.office_law.proofs.Common.{Pgn, GrantedBlock, Net, Phase, Draft, Review, has_node, in_review, is_j1939}
use Rattle.office_law.proofs.Common.{is_submitter, IsNet, with_block, with_node, in_phase, with_approval}
use Rattle.std.specs.List.Sorted.{IsStrictlySortedBy}
use Rattle.office_types.specs.Block.{form_number}
use Rattle.office_types.specs.State.{by_first, submitter_of}
use Rattle.office_rules.specs.Kept.{AreApprovals}
use Rattle.office_law.proofs.Lists.{All-from_none, Contains-from_put, Contains-none}
use Rattle.office_law.proofs.ChangesByTests.{CanAddNode, CanApprove, CanGrant}

-- a network with one block more
pub IsNet-granted : (net : Net) (g : GrantedBlock) → IsNet net → CanGrant net g → IsNet (with_block net g)
IsNet-granted net g h can = record {
  named = h.named;
  head = h.head;
  live = h.live;
  blocks = record {
    ranges = All-put (λ b. IsRange b.block × IsPlainName b.team) by_first g net.blocks (can.range, can.team)
        h.blocks.ranges;
    formed = All-put (λ b. is_spn b.block.form ≡ false) by_first g net.blocks can.formed h.blocks.formed;
    groups = All-put (λ b. same_form b.block.form Pgn ≡ true → is_j1939 net.head.kind ≡ true) by_first g net.blocks
        can.groups h.blocks.groups;
    rising = IsStrictlySortedBy-put by_first
        (then_total (on_total (λ (b : GrantedBlock). form_number b.block.form) nat_cmp_total)
        (on_total (λ (b : GrantedBlock). b.block.first) nat_cmp_total))
        g net.blocks h.blocks.rising;
    apart = AllPairs-put (λ a b. have_common a.block b.block ≡ false) (λ a b e. have_common-comm b.block a.block ∙ e)
        by_first g net.blocks
        (All-weaker (λ b. have_common b.block g.block ≡ false) (λ b. have_common g.block b.block ≡ false)
        (λ b e. have_common-comm g.block b.block ∙ e)
        net.blocks (All-from_none (λ b. have_common b.block g.block) net.blocks can.free))
        h.blocks.apart;
  };
  held = h.held;
  approvals = h.approvals;
  releases = h.releases;
}

-- a sheet with one node more
IsSheet-node : (s : Sheet) (node : Node) → IsSheet s → IsNode node → has_node s.nodes node.name ≡ false
    → length s.nodes < roster_limit
    → IsSheet (record s { nodes = s.nodes ++ node ∷ [] })
IsSheet-node s node h form new few = record {
  well_formed = record {
    nodes = record {
      apart = apart_and_last (λ a b. bytes_eq (node_name a) (node_name b)) s.nodes node h.well_formed.nodes.apart new;
      few = let l = length-append s.nodes (node ∷ []) in omega (arith, l, few);
    };
    tables = h.well_formed.tables;
    entries = h.well_formed.entries;
    together = h.well_formed.together;
    messages = h.well_formed.messages;
  };
  version = h.version;
  comment = h.comment;
  nodes = All-push IsNode s.nodes node h.nodes form;
  tables = h.tables;
  messages = h.messages;
}

-- a network with one node more
pub IsNet-noded : (net : Net) (node : Node) → IsNet net → CanAddNode net node → IsNet (with_node net node)
IsNet-noded net node h can = record {
  named = h.named;
  head = record { reviewed = h.head.reviewed; submitted = h.head.submitted; frame_alone = h.head.frame_alone };
  live = record {
    sheet = IsSheet-node (sheet_of net) node h.live.sheet can.form can.unnamed can.few;
    clear = h.live.clear;
    owned = h.live.owned;
  };
  blocks = h.blocks;
  held = h.held;
  approvals = h.approvals;
  releases = h.releases;
}

-- no approvals, in whatever phase
none_approved : (phase : Phase) → AreApprovals phase []
unfolding IsStrictlySortedBy
none_approved phase = record { plain = All-nil _; rising = tt; in_review = λ _. refl; others = nobody phase }
  where
    nobody : (p : Phase) → IfSome (submitter_of p) (λ submitter. Contains {X = List ℕ} [] submitter → ⊥)
    nobody Draft = tt
    nobody (Review submitter) = Contains-none submitter

-- a network in another phase
pub IsNet-in_phase : (net : Net) (phase : Phase) → IsNet net → IfSome (submitter_of phase) IsPlainName
    → IsNet (in_phase net phase)
IsNet-in_phase net phase h plain = record {
  named = h.named;
  head = record { reviewed = h.head.reviewed; submitted = plain; frame_alone = h.head.frame_alone };
  live = h.live;
  blocks = h.blocks;
  held = h.held;
  approvals = none_approved phase;
  releases = h.releases;
}

approved : (team : List ℕ) (phase : Phase) (approvals : List (List ℕ)) → AreApprovals phase approvals → IsPlainName team
    → in_review phase ≡ true → is_submitter team phase ≡ false
    → AreApprovals phase (put text_cmp team approvals)
approved team Draft approvals h plain reviewed other = absurd (false≢true reviewed)
approved team (Review submitter) approvals h plain reviewed other = record {
  plain = All-put IsPlainName text_cmp team approvals plain h.plain;
  rising = IsStrictlySortedBy-put text_cmp nat_list_cmp_total team approvals h.rising;
  in_review = λ e. absurd (draft_or_review e);
  others = λ c. elim (Contains-from_put text_cmp team submitter approvals c) [
    | inl same ↦ false≢true (sym other ∙ (bytes_eq-Decides submitter team).1 same)
    | inr there ↦ h.others there
  ];
}
  where
    draft_or_review : Review submitter ≡ Draft → ⊥
    draft_or_review e = cc

-- a network with one approval more
pub IsNet-approved : (net : Net) (team : List ℕ) → IsNet net → CanApprove team net → IsNet (with_approval net team)
IsNet-approved net team h can = record {
  named = h.named;
  head = h.head;
  live = h.live;
  blocks = h.blocks;
  held = h.held;
  approvals = approved team net.head.phase net.approvals h.approvals can.plain can.reviewed can.other;
  releases = h.releases;
}
