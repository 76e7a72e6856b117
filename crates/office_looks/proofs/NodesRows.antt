-- The lines of nodes computed.
use Rattle.office_looks.proofs.Common.{◌≡◌, List, [], ◌∷◌, ◌++◌, None, Some, codes, refl, false, option_map, pos, Intel}
use Rattle.office_looks.proofs.Common.{Always, Std, Ext, empty_sheet, Message, Node, Signal, Integer, J1939, Draft}
use Rattle.office_looks.proofs.Common.{View, table_text}
use Rattle.std.specs.Fmt.{digits}
use Rattle.office_looks.specs.Nodes.{node_table, nodes_table}

abbrev torque : Signal
torque = record {
  name = codes "Torque";
  layout = record { start = 8; size = 8; order = Intel };
  signed = false;
  value_type = Integer;
  mux = Always;
  spn = 0;
  factor = record { mantissa = pos 1; exponent = pos 0 };
  offset = record { mantissa = pos 0; exponent = pos 0 };
  minimum = record { mantissa = pos 0; exponent = pos 0 };
  maximum = record { mantissa = pos 0; exponent = pos 0 };
  unit = [];
  receivers = codes "Dash" ∷ codes "Gateway" ∷ codes "Dash" ∷ [];
  comment = [];
  values = [];
}

abbrev engine : Message
engine = record {
  ident = Ext 217056510;
  name = codes "EngineSpeed";
  length = 8;
  transmitter = Some (codes "Engine");
  comment = [];
  signals = torque ∷ record torque { name = codes "Speed"; receivers = codes "Dash" ∷ [] } ∷ [];
}

abbrev lamp : Message
lamp = record {
  ident = Std 256;
  name = codes "DashLamp";
  length = 8;
  transmitter = Some (codes "Dash");
  comment = [];
  signals = record torque { receivers = codes "Engine" ∷ codes "Gateway" ∷ [] } ∷ [];
}

abbrev plain : List Node
plain = record { name = codes "Gateway"; comment = [] } ∷ record { name = codes "Ecm"; comment = [] } ∷ []

abbrev nodes : List Node
nodes = record { name = codes "Engine"; comment = [] }
    ∷ record { name = codes "Dash"; comment = codes "Instrument cluster" } ∷ plain

abbrev view : View
view = record {
  name = codes "lab";
  kind = J1939;
  reviews = 1;
  phase = Draft;
  sheet = record empty_sheet { nodes = nodes; messages = lamp ∷ engine ∷ [] };
  owners = codes "office" ∷ codes "office" ∷ [];
  blocks = [];
  held = [];
  approvals = [];
  releases = [];
  used = [];
}

four_nodes : table_text (nodes_table view)
    ≡ codes "sends    1 receives    1 Engine       -\n"
    ++ codes "sends    1 receives    1 Dash         Instrument cluster\n"
    ++ codes "sends    0 receives    2 Gateway      -\n"
    ++ codes "sends    0 receives    0 Ecm          -\n"
    ++ codes "nodes 4\n"
unfolding digits
four_nodes = refl

no_nodes : table_text (nodes_table (record view { sheet = empty_sheet })) ≡ codes "nodes 0\n"
unfolding digits
no_nodes = refl

-- a signal that names it twice counts once
one_node : option_map table_text (node_table (codes "Dash") view)
    ≡ Some (codes "sends           256 std 00000100      -    1 DashLamp\n"
    ++ codes "receives 2364540158 ext 0cf004fe  61444    2 EngineSpeed\n"
    ++ codes "sends 1 receives 1\n")
unfolding digits
one_node = refl

no_such_node : node_table (codes "Body") view ≡ None
no_such_node = refl
