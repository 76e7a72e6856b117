-- Why statements stay or not: examples that compute. The sheet has the node `ECU`, and message 100 with the signal
-- `Speed`.
use Rattle.dbc_keep_law.proofs.Common.{◌≡◌, ℕ, false, List, [], ◌∷◌, Some, None, codes, refl, Number, Integer, Sheet}
use Rattle.dbc_keep_law.proofs.Common.{Mark, Name, Text}
use Rattle.std.specs.Prelude.{pos}
use Rattle.bitlayout.specs.declared.layout.Order.TheVariants.{Intel}
use Rattle.bitlayout.specs.declared.place.Mux.TheVariants.{Always}
use Rattle.can_id.specs.declared.ident.Ident.TheVariants.{Std}
use Rattle.dbc_words.specs.declared.keyword.Keyword.TheVariants.{
  AttributeDefinition,
  AttributeValue,
  Comment,
  MessageTransmitters,
  RelationAttributeValue,
  SignalGroup,
  SignalTypeReference,
  SignalValueType,
  ValueTexts,
}
use Rattle.dbc_grammar.specs.declared.token.TokenKind.TheVariants.{Number as NumberKind}
use Rattle.dbc_keep_law.specs.Staying.{Word, reason_by}
use Rattle.dbc_keep_law.specs.declared.reason.LeavingReason.TheVariants.{NoMessage, NoNode, NoSignal, SheetSays}

abbrev whole : ℕ → Number
whole n = record { mantissa = pos n; exponent = pos 0 }

abbrev sheet : Sheet
sheet = record {
  version = [];
  comment = [];
  nodes = record { name = codes "ECU"; comment = [] } ∷ [];
  tables = [];
  messages = record {
    ident = Std 100;
    name = codes "Motor";
    length = 8;
    transmitter = Some (codes "ECU");
    comment = [];
    signals = record {
      name = codes "Speed";
      layout = record { start = 0; size = 8; order = Intel };
      signed = false;
      mux = Always;
      factor = whole 1;
      offset = whole 0;
      minimum = whole 0;
      maximum = whole 0;
      unit = [];
      receivers = [];
      comment = [];
      spn = 0;
      values = [];
      value_type = Integer;
    } ∷ [];
  } ∷ [];
}

abbrev name : List ℕ → Word
name t = record { kind = Name; text = t }

abbrev number : List ℕ → Word
number t = record { kind = NumberKind; text = t }

abbrev text : List ℕ → Word
text t = record { kind = Text; text = t }

abbrev end : Word
end = record { kind = Mark; text = codes ";" }

abbrev colon : Word
colon = record { kind = Mark; text = codes ":" }

-- BA_ "Cycle" BO_ 100 10; BO_ 101 has no message; the number of a message is the same with leading zeros
cycle_stays : reason_by sheet AttributeValue (text (codes "\"Cycle\"") ∷ name (codes "BO_") ∷ number (codes "100")
    ∷ number (codes "10") ∷ end ∷ []) ≡ None
cycle_stays = refl

zeros_stay : reason_by sheet AttributeValue (text (codes "\"Cycle\"") ∷ name (codes "BO_") ∷ number (codes "0100")
    ∷ number (codes "10") ∷ end ∷ []) ≡ None
zeros_stay = refl

cycle_of_none : reason_by sheet AttributeValue (text (codes "\"Cycle\"") ∷ name (codes "BO_") ∷ number (codes "101")
    ∷ number (codes "10") ∷ end ∷ []) ≡ Some NoMessage
cycle_of_none = refl

-- BA_ "Baudrate" 500000; is of the network
network_stays : reason_by sheet AttributeValue (text (codes "\"Baudrate\"") ∷ number (codes "500000") ∷ end ∷ [])
    ≡ None
network_stays = refl

-- BA_ "Long" SG_ 100 Speed "..."; SG_ 100 Torque; BU_ Other
long_name_stays : reason_by sheet AttributeValue (text (codes "\"Long\"") ∷ name (codes "SG_") ∷ number (codes "100")
    ∷ name (codes "Speed") ∷ text (codes "\"Speed of the motor\"") ∷ end ∷ []) ≡ None
long_name_stays = refl

long_name_of_none : reason_by sheet AttributeValue (text (codes "\"Long\"") ∷ name (codes "SG_") ∷ number (codes "100")
    ∷ name (codes "Torque") ∷ text (codes "\"\"") ∷ end ∷ []) ≡ Some NoSignal
long_name_of_none = refl

node_of_none : reason_by sheet AttributeValue (text (codes "\"Node\"") ∷ name (codes "BU_") ∷ name (codes "Other")
    ∷ number (codes "1") ∷ end ∷ []) ≡ Some NoNode
node_of_none = refl

-- BA_ "SPN" SG_ 100 Speed 600000; is the sheet's to say, and `SPN` of a message isn't
spn_goes : reason_by sheet AttributeValue (text (codes "\"SPN\"") ∷ name (codes "SG_") ∷ number (codes "100")
    ∷ name (codes "Speed") ∷ number (codes "600000") ∷ end ∷ []) ≡ Some SheetSays
spn_goes = refl

spn_of_message_stays : reason_by sheet AttributeValue
    (text (codes "\"SPN\"") ∷ name (codes "BO_") ∷ number (codes "100")
    ∷ number (codes "1") ∷ end ∷ []) ≡ None
spn_of_message_stays = refl

-- BA_DEF_ BO_ "Cycle" INT 0 100; cites nothing
definition_stays : reason_by sheet AttributeDefinition (name (codes "BO_") ∷ text (codes "\"Cycle\"")
    ∷ name (codes "INT") ∷ number (codes "0") ∷ number (codes "100") ∷ end ∷ []) ≡ None
definition_stays = refl

-- BO_TX_BU_ 100 : ECU,Vector__XXX; with Other
transmitters_stay : reason_by sheet MessageTransmitters (number (codes "100") ∷ colon ∷ name (codes "ECU")
    ∷ record { kind = Mark; text = codes "," } ∷ name (codes "Vector__XXX") ∷ end ∷ []) ≡ None
transmitters_stay = refl

transmitter_of_none : reason_by sheet MessageTransmitters (number (codes "100") ∷ colon ∷ name (codes "ECU")
    ∷ record { kind = Mark; text = codes "," } ∷ name (codes "Other") ∷ end ∷ []) ≡ Some NoNode
transmitter_of_none = refl

-- SIG_GROUP_ 100 Group 1 : Speed; with Torque
group_stays : reason_by sheet SignalGroup (number (codes "100") ∷ name (codes "Group") ∷ number (codes "1") ∷ colon
    ∷ name (codes "Speed") ∷ end ∷ []) ≡ None
group_stays = refl

group_of_none : reason_by sheet SignalGroup (number (codes "100") ∷ name (codes "Group") ∷ number (codes "1") ∷ colon
    ∷ name (codes "Speed") ∷ name (codes "Torque") ∷ end ∷ []) ≡ Some NoSignal
group_of_none = refl

-- SIG_TYPE_REF_ 100 Speed : Type;
reference_stays : reason_by sheet SignalTypeReference (number (codes "100") ∷ name (codes "Speed") ∷ colon
    ∷ name (codes "Type") ∷ end ∷ []) ≡ None
reference_stays = refl

-- BA_REL_ "Delay" BU_SG_REL_ ECU SG_ 100 Speed 5; of Other
relation_stays : reason_by sheet RelationAttributeValue (text (codes "\"Delay\"") ∷ name (codes "BU_SG_REL_")
    ∷ name (codes "ECU") ∷ name (codes "SG_") ∷ number (codes "100") ∷ name (codes "Speed") ∷ number (codes "5") ∷ end
    ∷ []) ≡ None
relation_stays = refl

relation_of_none : reason_by sheet RelationAttributeValue (text (codes "\"Delay\"") ∷ name (codes "BU_BO_REL_")
    ∷ name (codes "Other") ∷ number (codes "100") ∷ number (codes "5") ∷ end ∷ []) ≡ Some NoNode
relation_of_none = refl

-- CM_ EV_ Variable ".."; stays; CM_ SG_ 100 Speed ".."; is the sheet's to say; CM_ SG_ 100 Torque ".."; cites nothing
-- that is there
variable_comment_stays : reason_by sheet Comment (name (codes "EV_") ∷ name (codes "Variable") ∷ text (codes "\"\"")
    ∷ end ∷ []) ≡ None
variable_comment_stays = refl

comment_goes : reason_by sheet Comment (name (codes "SG_") ∷ number (codes "100") ∷ name (codes "Speed")
    ∷ text (codes "\"\"") ∷ end ∷ []) ≡ Some SheetSays
comment_goes = refl

comment_of_none : reason_by sheet Comment (name (codes "SG_") ∷ number (codes "100") ∷ name (codes "Torque")
    ∷ text (codes "\"\"") ∷ end ∷ []) ≡ Some NoSignal
comment_of_none = refl

-- VAL_ Variable 0 "off" ; stays; VAL_ 100 Speed 0 "off" ; and SIG_VALTYPE_ 100 Speed 1; are the sheet's to say
variable_texts_stay : reason_by sheet ValueTexts (name (codes "Variable") ∷ number (codes "0") ∷ text (codes "\"off\"")
    ∷ end ∷ []) ≡ None
variable_texts_stay = refl

texts_go : reason_by sheet ValueTexts (number (codes "100") ∷ name (codes "Speed") ∷ number (codes "0")
    ∷ text (codes "\"off\"") ∷ end ∷ []) ≡ Some SheetSays
texts_go = refl

type_goes : reason_by sheet SignalValueType
    (number (codes "100") ∷ name (codes "Speed") ∷ number (codes "1") ∷ end ∷ [])
    ≡ Some SheetSays
type_goes = refl
