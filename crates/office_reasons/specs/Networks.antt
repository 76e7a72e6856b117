-- What is reported of networks, their blocks and their nodes.
use Rattle.std.specs.Prelude.{ℕ, ◌&&◌, nat_le, Bool, not, List, [], ◌∷◌, ◌++◌, map, Option, codes, decimal, find}
use Rattle.std.specs.Prelude.{if◌then◌else◌, option_map}
use Rattle.dbc_sheet.specs.declared.node.Node.{Node}
use Rattle.office_types.specs.Block.{Range, block_word, have_common, is_spn}
use Rattle.office_types.specs.declared.block.Block.{Block}
use Rattle.office_types.specs.declared.book.SpnBlock.{SpnBlock}
use Rattle.office_types.specs.declared.book.SpnBook.{SpnBook}
use Rattle.office_types.specs.declared.command.Action.{Action}
use Rattle.office_types.specs.declared.command.Action.TheVariants.{OpenNet, Grant}
use Rattle.office_types.specs.declared.state.GrantedBlock.{GrantedBlock}
use Rattle.office_types.specs.declared.state.Net.{Net}
use Rattle.office_types.specs.Command.{kind_word}
use Rattle.office_rules.specs.Facts.{has_node, numbers_of}
use Rattle.office_reasons.specs.Blocks.{spn_numbers}
use Rattle.office_reasons.specs.Few.{few_text}
use Rattle.office_reasons.specs.Pieces.{range_text, shown}

-- which networks there are
abbrev pub networks_text : List (List ℕ) → List ℕ
networks_text [] = codes "no network is open"
networks_text (name ∷ names) = codes "networks: " ++ few_text (map (λ n. shown n) (name ∷ names))

abbrev pub no_net_text : List ℕ → List (List ℕ) → List ℕ
no_net_text net names = codes "there is no network " ++ (shown net ++ (codes "; " ++ networks_text names))

abbrev pub net_there_text : Net → List ℕ
net_there_text net = codes "there is a network " ++ (shown net.name
    ++ (codes " already, of kind " ++ (kind_word net.head.kind
    ++ (codes " with reviews=" ++ decimal net.head.reviews))))

-- what the office alone does
abbrev pub office_task : Action → List ℕ
office_task (OpenNet c) = codes "opens networks"
office_task (Grant c) = codes "grants blocks"
office_task a = codes "freezes releases"

abbrev pub not_office_text : List ℕ → Action → List ℕ
not_office_text team a =
    codes "only the team office " ++ (office_task a ++ (codes ", and not " ++ shown team))

abbrev pub can_text : Net → List ℕ
can_text net = shown net.name ++ (codes " is of kind " ++ (kind_word net.head.kind
    ++ codes ", and only a network of kind j1939 gives out PGNs"))

-- the block of suspect parameter numbers has one of these numbers
abbrev pub overlap_of : Block → SpnBlock → Bool
overlap_of b granted = nat_le granted.first b.last && nat_le b.first granted.last

-- the requested block, and a granted one of the network that has a number of it
abbrev pub granted_text : Range → GrantedBlock → List ℕ
granted_text r g = block_word r.form ++ (codes " " ++ (range_text (numbers_of r) ++ (codes " overlaps "
    ++ (block_word r.form ++ (codes " " ++ (range_text (numbers_of g.block) ++ (codes " of team " ++ shown g.team)))))))

-- the same of suspect parameter numbers, on whatever network
abbrev pub granted_spn_text : Range → SpnBlock → List ℕ
granted_spn_text r b = codes "spn " ++ (range_text (numbers_of r) ++ (codes " overlaps spn "
    ++ (range_text (spn_numbers b) ++ (codes " of team " ++ (shown b.team ++ (codes " on network " ++ shown b.net))))))

-- the first block that has a number of the requested one
abbrev pub taken_reason : Net → SpnBook → Range → Option (List ℕ)
taken_reason net book r =
    if is_spn r.form then option_map (granted_spn_text r) (find (overlap_of (numbers_of r)) book.blocks)
    else option_map (granted_text r) (find (λ g. have_common g.block r) net.blocks)

abbrev pub limit_text : List ℕ → ℕ → List ℕ → List ℕ → List ℕ
limit_text holder count things whole = holder ++ (codes " has " ++ (decimal count ++ (codes " " ++ (things
    ++ (codes ", the most that a " ++ (whole ++ codes " may have"))))))

abbrev pub named_node_text : Net → List ℕ → List ℕ
named_node_text net node = shown net.name ++ (codes " has a node " ++ (shown node ++ codes " already"))

abbrev pub nodes_text : List Node → List ℕ
nodes_text [] = codes "it has no nodes"
nodes_text (node ∷ nodes) = codes "its nodes: " ++ few_text (map (λ (n : Node). shown n.name) (node ∷ nodes))

-- which nodes there are
abbrev pub no_node_text : Net → List ℕ → List ℕ
no_node_text net node = shown net.name ++ (codes " has no node " ++ (shown node
    ++ (codes "; " ++ nodes_text net.head.frame.nodes)))

-- the first of the receivers that is no node
abbrev pub absent_receiver : List Node → List (List ℕ) → Option (List ℕ)
absent_receiver nodes receivers = find (λ name. not (has_node nodes name)) receivers

abbrev pub receiver_text : Net → List ℕ → List ℕ → List ℕ
receiver_text net signal receiver = shown net.name ++ (codes " has no node " ++ (shown receiver
    ++ (codes ", which is to receive " ++ (shown signal ++ (codes "; " ++ nodes_text net.head.frame.nodes)))))

abbrev pub receiver_reason : Net → List ℕ → List (List ℕ) → Option (List ℕ)
receiver_reason net signal receivers =
    option_map (receiver_text net signal) (absent_receiver net.head.frame.nodes receivers)
