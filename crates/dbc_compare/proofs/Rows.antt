-- Comparisons of small sheets, computed.
use Rattle.dbc_compare.proofs.Common.{◌≡◌, ℕ, List, [], ◌∷◌, ◌++◌, None, Some, refl, true, false, Intel, Motorola}
use Rattle.dbc_compare.proofs.Common.{Always, Under, Number, Message, Node, Sheet, Signal, ValueTable, ValueText}
use Rattle.dbc_compare.proofs.Common.{Integer, Float}
use Rattle.std.proofs.Common.{codes}
use Rattle.std.specs.Prelude.{pos, negsuc}
use Rattle.std.specs.Fmt.{digits}
use Rattle.bitlayout.specs.Bits.{walk}
use Rattle.can_id.specs.declared.ident.Ident.TheVariants.{Std, Ext}
use Rattle.decimal.specs.Printing.{unsigned_text}
use Rattle.dbc_sheet.specs.Sheet.{empty_sheet}
use Rattle.dbc_compare.specs.Differences.{differences_about, field_changes, pair_differences, thing_differences}
use Rattle.dbc_compare.specs.List.{compare_text}

abbrev whole : ℕ → Number
whole n = record { mantissa = pos n; exponent = pos 0 }

-- n + 1 below 0
abbrev below_0 : ℕ → Number
below_0 n = record { mantissa = negsuc n; exponent = pos 0 }

abbrev tenths : ℕ → Number
tenths n = record { mantissa = pos n; exponent = negsuc 0 }

abbrev text_for : Number → List ℕ → ValueText
text_for value text = record { value = value; text = text }

abbrev node : List ℕ → List ℕ → Node
node name comment = record { name = name; comment = comment }

abbrev table : List ℕ → List ValueText → ValueTable
table name entries = record { name = name; entries = entries }

abbrev torque : Signal
torque = record {
  name = codes "Torque";
  layout = record { start = 8; size = 8; order = Intel };
  signed = false;
  value_type = Integer;
  mux = Always;
  spn = 513;
  factor = whole 1;
  offset = below_0 124;
  minimum = below_0 124;
  maximum = whole 125;
  unit = codes "%";
  receivers = codes "Dash" ∷ codes "Gateway" ∷ [];
  comment = [];
  values = [];
}

abbrev lamp : List Signal → Message
lamp signals = record {
  ident = Std 256;
  name = codes "Lamp";
  length = 8;
  transmitter = Some (codes "Engine");
  comment = [];
  signals = signals;
}

abbrev old : Sheet
old = record {
  version = codes "1.0";
  comment = [];
  nodes = node (codes "Engine") [] ∷ node (codes "Dash") (codes "cluster") ∷ node (codes "Body") [] ∷ [];
  tables =
      table (codes "OnOff") (text_for (whole 0) (codes "Off") ∷ text_for (whole 1) (codes "On") ∷ [])
      ∷ table (codes "Old") []
      ∷ [];
  messages = lamp (torque ∷ []) ∷ record (lamp []) { ident = Std 257; name = codes "Gone" } ∷ [];
}

-- nothing of the signal is as it was, but its name
abbrev other_torque : Signal
other_torque = record torque {
  layout = record { start = 7; size = 16; order = Motorola };
  signed = true;
  value_type = Float;
  mux = Under 3;
  spn = 0;
  factor = tenths 5;
  offset = whole 0;
  minimum = whole 0;
  maximum = record { mantissa = pos 3175; exponent = negsuc 1 };
  unit = [];
  receivers = [];
  comment = codes "a, b";
  values = text_for (whole 0) (codes "Not there") ∷ text_for (whole 1) (codes "-") ∷ [];
}

abbrev other_lamp : Message
other_lamp = record (lamp (other_torque ∷ [])) {
  ident = Ext 512;
  length = 4;
  transmitter = None;
  comment = codes "50 %";
}

abbrev new : Sheet
new = record {
  version = [];
  comment = codes "two words";
  nodes = node (codes "Dash") [] ∷ node (codes "Engine") [] ∷ node (codes "Tcu") [] ∷ [];
  tables = table (codes "OnOff") (text_for (whole 1) (codes "On") ∷ []) ∷ [];
  messages = other_lamp ∷ [];
}

each_field : compare_text false old new
    ≡ codes ". sheet            - -   -             - - version 1.0 -> -\n"
    ++ codes ". sheet            - -   -             - - comment - -> two%20words\n"
    ++ codes ". node             - -   -             - Dash comment cluster -> -\n"
    ++ codes ". node             - -   -             - Tcu added\n"
    ++ codes ". node             - -   -             - Body removed\n"
    ++ codes ". node             - -   -             - - reordered\n"
    ++ codes ". table            - -   -             - OnOff values 0:Off,1:On -> 1:On\n"
    ++ codes ". table            - -   -             - Old removed\n"
    ++ codes "! message        257 std 00000101      - Gone removed\n"
    ++ codes "! message 2147484160 ext 00000200      0 Lamp renumbered 256 -> 2147484160\n"
    ++ codes "! message 2147484160 ext 00000200      0 Lamp length 8 -> 4\n"
    ++ codes ". message 2147484160 ext 00000200      0 Lamp transmitter Engine -> -\n"
    ++ codes ". message 2147484160 ext 00000200      0 Lamp comment - -> 50%20%25\n"
    ++ codes "! signal  2147484160 ext 00000200      0 Lamp.Torque start 8 -> 7\n"
    ++ codes "! signal  2147484160 ext 00000200      0 Lamp.Torque size 8 -> 16\n"
    ++ codes "! signal  2147484160 ext 00000200      0 Lamp.Torque order intel -> motorola\n"
    ++ codes "! signal  2147484160 ext 00000200      0 Lamp.Torque signed false -> true\n"
    ++ codes "! signal  2147484160 ext 00000200      0 Lamp.Torque type integer -> float\n"
    ++ codes "! signal  2147484160 ext 00000200      0 Lamp.Torque mux - -> m3\n"
    ++ codes "! signal  2147484160 ext 00000200      0 Lamp.Torque factor 1 -> 0.5\n"
    ++ codes "! signal  2147484160 ext 00000200      0 Lamp.Torque offset -125 -> 0\n"
    ++ codes ". signal  2147484160 ext 00000200      0 Lamp.Torque minimum -125 -> 0\n"
    ++ codes ". signal  2147484160 ext 00000200      0 Lamp.Torque maximum 125 -> 31.75\n"
    ++ codes ". signal  2147484160 ext 00000200      0 Lamp.Torque unit %25 -> -\n"
    ++ codes ". signal  2147484160 ext 00000200      0 Lamp.Torque spn 513 -> -\n"
    ++ codes ". signal  2147484160 ext 00000200      0 Lamp.Torque receivers Dash,Gateway -> -\n"
    ++ codes ". signal  2147484160 ext 00000200      0 Lamp.Torque values - -> 0:Not%20there,1:%2d\n"
    ++ codes ". signal  2147484160 ext 00000200      0 Lamp.Torque comment - -> a%2c%20b\n"
    ++ codes "differences 28 breaking 11 added 0 removed 1 changed 1\n"
unfolding digits unsigned_text walk field_changes differences_about thing_differences pair_differences
each_field = refl

the_other_way : compare_text false new old
    ≡ codes ". sheet            - -   -             - - version - -> 1.0\n"
    ++ codes ". sheet            - -   -             - - comment two%20words -> -\n"
    ++ codes ". node             - -   -             - Dash comment - -> cluster\n"
    ++ codes ". node             - -   -             - Body added\n"
    ++ codes ". node             - -   -             - Tcu removed\n"
    ++ codes ". node             - -   -             - - reordered\n"
    ++ codes ". table            - -   -             - OnOff values 1:On -> 0:Off,1:On\n"
    ++ codes ". table            - -   -             - Old added\n"
    ++ codes "! message        256 std 00000100      - Lamp renumbered 2147484160 -> 256\n"
    ++ codes "! message        256 std 00000100      - Lamp length 4 -> 8\n"
    ++ codes ". message        256 std 00000100      - Lamp transmitter - -> Engine\n"
    ++ codes ". message        256 std 00000100      - Lamp comment 50%20%25 -> -\n"
    ++ codes "! signal         256 std 00000100      - Lamp.Torque start 7 -> 8\n"
    ++ codes "! signal         256 std 00000100      - Lamp.Torque size 16 -> 8\n"
    ++ codes "! signal         256 std 00000100      - Lamp.Torque order motorola -> intel\n"
    ++ codes "! signal         256 std 00000100      - Lamp.Torque signed true -> false\n"
    ++ codes "! signal         256 std 00000100      - Lamp.Torque type float -> integer\n"
    ++ codes "! signal         256 std 00000100      - Lamp.Torque mux m3 -> -\n"
    ++ codes "! signal         256 std 00000100      - Lamp.Torque factor 0.5 -> 1\n"
    ++ codes "! signal         256 std 00000100      - Lamp.Torque offset 0 -> -125\n"
    ++ codes ". signal         256 std 00000100      - Lamp.Torque minimum 0 -> -125\n"
    ++ codes ". signal         256 std 00000100      - Lamp.Torque maximum 31.75 -> 125\n"
    ++ codes ". signal         256 std 00000100      - Lamp.Torque unit - -> %25\n"
    ++ codes ". signal         256 std 00000100      - Lamp.Torque spn - -> 513\n"
    ++ codes ". signal         256 std 00000100      - Lamp.Torque receivers - -> Dash,Gateway\n"
    ++ codes ". signal         256 std 00000100      - Lamp.Torque values 0:Not%20there,1:%2d -> -\n"
    ++ codes ". signal         256 std 00000100      - Lamp.Torque comment a%2c%20b -> -\n"
    ++ codes ". message        257 std 00000101      - Gone added\n"
    ++ codes "differences 28 breaking 10 added 1 removed 0 changed 1\n"
unfolding digits unsigned_text walk field_changes differences_about thing_differences pair_differences
the_other_way = refl

equal_sheets : compare_text false old old ≡ codes "differences 0 breaking 0 added 0 removed 0 changed 0\n"
unfolding digits unsigned_text field_changes differences_about thing_differences pair_differences
equal_sheets = refl

renamed : compare_text false (record empty_sheet { messages = lamp [] ∷ [] })
    (record empty_sheet { messages = record (lamp []) { name = codes "Light" } ∷ [] })
    ≡ codes ". message        256 std 00000100      - Light renamed Lamp -> Light\n"
    ++ codes "differences 1 breaking 0 added 0 removed 0 changed 1\n"
unfolding digits field_changes differences_about thing_differences pair_differences
renamed = refl

-- ---- partners

-- a lamp of this number and this name
abbrev named : ℕ → List ℕ → Message
named number name = record (lamp []) { ident = Std number; name = name }

-- two messages exchange their identifiers: each keeps its name, and has another number
exchanged : compare_text false
    (record empty_sheet { messages = named 256 (codes "Left") ∷ named 257 (codes "Right") ∷ [] })
    (record empty_sheet { messages = named 256 (codes "Right") ∷ named 257 (codes "Left") ∷ [] })
    ≡ codes "! message        256 std 00000100      - Right renumbered 257 -> 256\n"
    ++ codes "! message        257 std 00000101      - Left renumbered 256 -> 257\n"
    ++ codes "differences 2 breaking 2 added 0 removed 0 changed 2\n"
unfolding digits unsigned_text field_changes differences_about thing_differences pair_differences
exchanged = refl

-- a message takes the number of one that is gone
number_of_another : compare_text false
    (record empty_sheet { messages = named 256 (codes "Left") ∷ named 257 (codes "Right") ∷ [] })
    (record empty_sheet { messages = named 256 (codes "Right") ∷ [] })
    ≡ codes "! message        256 std 00000100      - Right renumbered 257 -> 256\n"
    ++ codes "! message        256 std 00000100      - Left removed\n"
    ++ codes "differences 2 breaking 2 added 0 removed 1 changed 1\n"
unfolding digits unsigned_text field_changes differences_about thing_differences pair_differences
number_of_another = refl

-- ---- the same bits in another order, and the sign of a float

same_to_a_receiver : compare_text false
    (record empty_sheet { messages = lamp (record torque { value_type = Float } ∷ []) ∷ [] })
    (record empty_sheet {
      messages = lamp (record torque {
        layout = record { start = 15; size = 8; order = Motorola };
        value_type = Float;
        signed = true;
      } ∷ []) ∷ [];
    })
    ≡ codes ". signal         256 std 00000100      - Lamp.Torque start 8 -> 15\n"
    ++ codes ". signal         256 std 00000100      - Lamp.Torque order intel -> motorola\n"
    ++ codes ". signal         256 std 00000100      - Lamp.Torque signed false -> true\n"
    ++ codes "differences 3 breaking 0 added 0 removed 0 changed 1\n"
unfolding digits unsigned_text walk field_changes differences_about thing_differences pair_differences
same_to_a_receiver = refl

-- ---- two files of one message

abbrev warning : Signal
warning = record torque { name = codes "Warning" }

-- a signal of this greatest value, and one of these texts
abbrev lamps : ℕ → ℕ → List ValueText → Message
lamps number most values = record (lamp (record torque { name = codes "Page"; maximum = whole most }
    ∷ record warning { values = values } ∷ [])) { ident = Std number; name = codes "Lamps" }

abbrev off : ValueText
off = text_for (whole 0) (codes "Off")

two_files : compare_text false
    (record empty_sheet { messages = lamps 256 3 (text_for (whole 1) (codes "On") ∷ off ∷ []) ∷ [] })
    (record empty_sheet { messages = lamps 257 2 [] ∷ [] })
    ≡ codes "! message        257 std 00000101      - Lamps renumbered 256 -> 257\n"
    ++ codes ". signal         257 std 00000101      - Lamps.Page maximum 3 -> 2\n"
    ++ codes ". signal         257 std 00000101      - Lamps.Warning values 1:On,0:Off -> -\n"
    ++ codes "differences 3 breaking 1 added 0 removed 0 changed 1\n"
unfolding digits unsigned_text field_changes differences_about thing_differences pair_differences
two_files = refl

-- ---- a release of a network, and the live sheet

-- of 29 bits
abbrev sent : ℕ → List ℕ → List Signal → Message
sent number name signals = record (lamp signals) { ident = Ext number; name = name }

abbrev boost_a : ℕ → Signal
boost_a spn = record torque { name = codes "BoostA"; spn = spn }

abbrev boost_b : Number → Number → List (List ℕ) → Signal
boost_b factor most receivers =
    record torque { name = codes "BoostB"; factor = factor; maximum = most; receivers = receivers }

abbrev fan : List Signal → Message
fan signals = sent 486476032 (codes "ECM_Fan") signals

abbrev selected : List ValueText → Signal
selected values = record torque { name = codes "FanSel"; values = values }

abbrev numbers : List ValueText
numbers = text_for (whole 0) (codes "One") ∷ text_for (whole 1) (codes "Two") ∷ text_for (whole 2) (codes "Three") ∷ []

abbrev below_14 : Number
below_14 = record { mantissa = negsuc 144; exponent = negsuc 0 }

abbrev released : List Message
released = sent 218038784 (codes "ECM_Boost") (boost_b (tenths 1) below_14 (codes "TCU" ∷ []) ∷ boost_a 516102 ∷ [])
    ∷ sent 419364864 (codes "ECM_Oil") []
    ∷ sent 486473984 (codes "ECM_Fuel") []
    ∷ fan (selected numbers ∷ [])
    ∷ []

abbrev switched : Signal
switched = selected (text_for (whole 0) (codes "Off") ∷ text_for (whole 1) (codes "On") ∷ [])

abbrev later_b : Signal
later_b = boost_b (tenths 2) (whole 11) (codes "TCU" ∷ codes "ICL" ∷ [])

abbrev live : List Message
live = sent 218038784 (codes "ECM_Boost") (boost_a 516143 ∷ later_b ∷ [])
    ∷ sent 419367936 (codes "ECM_New1") []
    ∷ sent 419368192 (codes "ECM_New2") []
    ∷ fan (switched ∷ record torque { name = codes "Q1" } ∷ record torque { name = codes "Q5" } ∷ [])
    ∷ []

since_a_release : compare_text false (record empty_sheet { messages = released }) (record empty_sheet { messages = live })
    ≡ codes ". signal  2365522432 ext 0cff0200  65282 ECM_Boost.BoostA spn 516102 -> 516143\n"
    ++ codes "! signal  2365522432 ext 0cff0200  65282 ECM_Boost.BoostB factor 0.1 -> 0.2\n"
    ++ codes ". signal  2365522432 ext 0cff0200  65282 ECM_Boost.BoostB maximum -14.5 -> 11\n"
    ++ codes ". signal  2365522432 ext 0cff0200  65282 ECM_Boost.BoostB receivers TCU -> TCU,ICL\n"
    ++ codes ". message 2365522432 ext 0cff0200  65282 ECM_Boost reordered\n"
    ++ codes "! message 2566848512 ext 18ff0000  65280 ECM_Oil removed\n"
    ++ codes ". message 2566851584 ext 18ff0c00  65292 ECM_New1 added\n"
    ++ codes ". message 2566851840 ext 18ff0d00  65293 ECM_New2 added\n"
    ++ codes "! message 2633957632 ext 1cff0100  65281 ECM_Fuel removed\n"
    ++ codes ". signal  2633959680 ext 1cff0900  65289 ECM_Fan.FanSel values 0:One,1:Two,2:Three -> 0:Off,1:On\n"
    ++ codes ". signal  2633959680 ext 1cff0900  65289 ECM_Fan.Q1 added\n"
    ++ codes ". signal  2633959680 ext 1cff0900  65289 ECM_Fan.Q5 added\n"
    ++ codes "differences 12 breaking 3 added 2 removed 2 changed 2\n"
unfolding digits unsigned_text field_changes differences_about thing_differences pair_differences
since_a_release = refl
