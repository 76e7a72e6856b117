-- Canonical texts, computed.
use Rattle.dbc_grammar.proofs.Common.{◌≡◌, true, false, ℕ, List, [], ◌∷◌, ◌++◌, Some, None, refl, codes, pos, negsuc}
use Rattle.dbc_grammar.proofs.Common.{flat_map, Intel, Motorola, Always, Multiplexor, Under, Std, Ext, Number, Integer}
use Rattle.dbc_grammar.proofs.Common.{Float, Double, Message, Sheet, ValueText}
use Rattle.std.specs.Fmt.{digits}
use Rattle.decimal.specs.Printing.{unsigned_text}
use Rattle.dbc_words.specs.declared.value_type.ValueType.{ValueType}
use Rattle.dbc_grammar.specs.Canon.{canonical_text}
use Rattle.dbc_sheet.specs.Sheet.{empty_sheet}
use Rattle.dbc_sheet.specs.declared.signal.Signal.{Signal}

abbrev lines : List (List ℕ) → List ℕ
lines ls = flat_map (λ l. l ++ 10 ∷ []) ls

row_empty : canonical_text empty_sheet ≡ lines (codes "VERSION \"\"" ∷ codes "NS_ :" ∷ codes "BS_:" ∷ codes "BU_:" ∷ [])
row_empty = refl

-- mantissa * 10 ^ exponent
abbrev whole : ℕ → Number
whole n = record { mantissa = pos n; exponent = pos 0 }

abbrev off_and_on : List ValueText
off_and_on = record { value = whole 0; text = codes "Off" } ∷ record { value = whole 1; text = codes "On" } ∷ []

abbrev selector : Signal
selector = record {
  name = codes "Sel";
  layout = record { start = 0; size = 2; order = Intel };
  signed = false;
  mux = Multiplexor;
  factor = whole 1;
  offset = whole 0;
  minimum = whole 0;
  maximum = whole 3;
  unit = [];
  receivers = [];
  comment = [];
  spn = 0;
  values = off_and_on;
  value_type = Integer;
}

abbrev val : Signal
val = record {
  name = codes "Val";
  layout = record { start = 15; size = 8; order = Motorola };
  signed = true;
  mux = Under 1;
  factor = record { mantissa = pos 5; exponent = negsuc 0 };
  offset = record { mantissa = negsuc 3; exponent = pos 1 };
  minimum = whole 0;
  maximum = whole 0;
  unit = codes "km/h";
  receivers = codes "Dash" ∷ codes "ECU" ∷ [];
  comment = [];
  spn = 0;
  values = [];
  value_type = Integer;
}

abbrev message : Message
message = record {
  ident = Std 256;
  name = codes "A";
  length = 2;
  transmitter = None;
  comment = codes "first";
  signals =
      selector ∷ val ∷ [];
}

abbrev sheet : Sheet
sheet = record {
  version = codes "1.0";
  comment = [];
  nodes = record { name = codes "ECU"; comment = [] } ∷ record { name = codes "Dash"; comment = [] } ∷ [];
  tables = record { name = codes "OnOff"; entries = off_and_on } ∷ [];
  messages = message ∷ [];
}

-- a version, two nodes, a table, and a message with a comment, a multiplexor with texts, and a signal under it
row_multiplexed : canonical_text sheet ≡ lines (
    codes "VERSION \"1.0\"" ∷ codes "NS_ :" ∷ codes "BS_:" ∷ codes "BU_: ECU Dash"
    ∷ codes "VAL_TABLE_ OnOff 0 \"Off\" 1 \"On\" ;"
    ∷ codes "BO_ 256 A: 2 Vector__XXX"
    ∷ codes " SG_ Sel M : 0|2@1+ (1,0) [0|3] \"\" Vector__XXX"
    ∷ codes " SG_ Val m1 : 15|8@0- (0.5,-40) [0|0] \"km/h\" Dash,ECU"
    ∷ codes "CM_ BO_ 256 \"first\";"
    ∷ codes "VAL_ 256 Sel 0 \"Off\" 1 \"On\" ;" ∷ [])
unfolding unsigned_text digits
row_multiplexed = refl

abbrev temperature : Signal
temperature = record {
  name = codes "Temp";
  layout = record { start = 16; size = 8; order = Intel };
  signed = false;
  mux = Always;
  factor = whole 1;
  offset = record { mantissa = negsuc 3; exponent = pos 1 };
  minimum = record { mantissa = negsuc 3; exponent = pos 1 };
  maximum = record { mantissa = pos 21; exponent = pos 1 };
  unit = 176 ∷ codes "C";
  receivers = codes "Dash" ∷ [];
  comment = codes "Coolant temperature";
  spn = 500;
  values = [];
  value_type = Integer;
}

abbrev engine_sheet : Sheet
engine_sheet = record {
  version = [];
  comment = [];
  nodes = record { name = codes "ECU"; comment = [] } ∷ record { name = codes "Dash"; comment = [] } ∷ [];
  tables = [];
  messages = record {
    ident = Ext 217056510;
    name = codes "Msg1";
    length = 8;
    transmitter = Some (codes "ECU");
    comment = [];
    signals = temperature ∷ [];
  } ∷ [];
}

-- a 29-bit identifier, a comment and a suspect parameter number of a signal, and the byte 176 in a unit
row_engine : canonical_text engine_sheet ≡ lines (
    codes "VERSION \"\"" ∷ codes "NS_ :" ∷ codes "BS_:" ∷ codes "BU_: ECU Dash"
    ∷ codes "BO_ 2364540158 Msg1: 8 ECU"
    ∷ (codes " SG_ Temp : 16|8@1+ (1,-40) [-40|210] \"" ++ 176 ∷ codes "C\" Dash")
    ∷ codes "CM_ SG_ 2364540158 Temp \"Coolant temperature\";"
    ∷ codes "BA_DEF_ SG_ \"SPN\" INT 0 524287;"
    ∷ codes "BA_DEF_DEF_ \"SPN\" 0;"
    ∷ codes "BA_ \"SPN\" SG_ 2364540158 Temp 500;" ∷ [])
unfolding unsigned_text digits
row_engine = refl

abbrev labelled : List ℕ → ℕ → ℕ → ValueType → Signal
labelled name start spn value_type = record {
  name = name;
  layout = record { start = start; size = 32; order = Intel };
  signed = false;
  mux = Always;
  factor = record { mantissa = pos 1; exponent = pos 21 };
  offset = record { mantissa = negsuc 6; exponent = negsuc 20 };
  minimum = whole 0;
  maximum = whole 0;
  unit = [];
  receivers = [];
  comment = [];
  spn = spn;
  values = [];
  value_type = value_type;
}

abbrev labelled_sheet : Sheet
labelled_sheet = record {
  version = [];
  comment = codes "of the file";
  nodes = record { name = codes "ECU"; comment = codes "a node" } ∷ record { name = codes "Dash"; comment = [] } ∷ [];
  tables = record { name = codes "Empty"; entries = [] } ∷ [];
  messages = record {
    ident = Std 7;
    name = codes "A";
    length = 64;
    transmitter = None;
    comment = [];
    signals = labelled (codes "F") 0 1 Float ∷ labelled (codes "I") 32 0 Integer ∷ labelled (codes "D") 64 524287 Double
        ∷ [];
  } ∷ [];
}

-- comments of the file and of a node, an empty table, powers of ten past 20, two suspect parameter numbers and two
-- value types
row_labelled : canonical_text labelled_sheet ≡ lines (
    codes "VERSION \"\"" ∷ codes "NS_ :" ∷ codes "BS_:" ∷ codes "BU_: ECU Dash"
    ∷ codes "VAL_TABLE_ Empty ;"
    ∷ codes "BO_ 7 A: 64 Vector__XXX"
    ∷ codes " SG_ F : 0|32@1+ (1E21,-7E-21) [0|0] \"\" Vector__XXX"
    ∷ codes " SG_ I : 32|32@1+ (1E21,-7E-21) [0|0] \"\" Vector__XXX"
    ∷ codes " SG_ D : 64|32@1+ (1E21,-7E-21) [0|0] \"\" Vector__XXX"
    ∷ codes "CM_ \"of the file\";"
    ∷ codes "CM_ BU_ ECU \"a node\";"
    ∷ codes "BA_DEF_ SG_ \"SPN\" INT 0 524287;"
    ∷ codes "BA_DEF_DEF_ \"SPN\" 0;"
    ∷ codes "BA_ \"SPN\" SG_ 7 F 1;"
    ∷ codes "BA_ \"SPN\" SG_ 7 D 524287;"
    ∷ codes "SIG_VALTYPE_ 7 F : 1;"
    ∷ codes "SIG_VALTYPE_ 7 D : 2;" ∷ [])
unfolding unsigned_text digits
row_labelled = refl

abbrev double : Signal
double = record {
  name = codes "S";
  layout = record { start = 65535; size = 64; order = Intel };
  signed = false;
  mux = Always;
  factor = record { mantissa = pos 1; exponent = negsuc 20 };
  offset = whole 0;
  minimum = record { mantissa = negsuc 0; exponent = pos 21 };
  maximum = whole 0;
  unit = [];
  receivers = [];
  comment = [];
  spn = 0;
  values = [];
  value_type = Double;
}

-- quotes that are escaped, and a comment of two lines
abbrev commented_sheet : Sheet
commented_sheet = record {
  version = [];
  comment = codes "of the " ++ 92 ∷ 34 ∷ codes "file" ++ 92 ∷ 34 ∷ [];
  nodes = record { name = codes "N"; comment = codes "two" ++ 10 ∷ codes "lines" } ∷ [];
  tables = [];
  messages = record {
    ident = Std 0;
    name = codes "M";
    length = 64;
    transmitter = None;
    comment = [];
    signals =
        double ∷ [];
  } ∷ [];
}

row_commented : canonical_text commented_sheet ≡ lines (
    codes "VERSION \"\"" ∷ codes "NS_ :" ∷ codes "BS_:" ∷ codes "BU_: N"
    ∷ codes "BO_ 0 M: 64 Vector__XXX"
    ∷ codes " SG_ S : 65535|64@1+ (1E-21,0) [-1E21|0] \"\" Vector__XXX"
    ∷ (codes "CM_ \"of the " ++ 92 ∷ 34 ∷ codes "file" ++ 92 ∷ 34 ∷ codes "\";")
    ∷ (codes "CM_ BU_ N \"two" ++ 10 ∷ codes "lines\";")
    ∷ codes "SIG_VALTYPE_ 0 S : 2;" ∷ [])
unfolding unsigned_text digits
row_commented = refl
