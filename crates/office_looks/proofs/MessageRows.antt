-- The lines of a message computed.
use Rattle.office_looks.proofs.Common.{◌≡◌, ℕ, [], ◌∷◌, ◌++◌, None, Some, codes, refl, true, false, pos, flat_map}
use Rattle.office_looks.proofs.Common.{Intel, Always, Std, Ext, Number, empty_sheet, Message, Signal, Integer, J1939}
use Rattle.office_looks.proofs.Common.{Draft, View}
use Rattle.std.specs.Prelude.{negsuc}
use Rattle.std.specs.Fmt.{digits}
use Rattle.bitlayout.specs.declared.layout.Order.TheVariants.{Motorola}
use Rattle.bitlayout.specs.declared.place.Mux.TheVariants.{Under}
use Rattle.can_id.specs.J1939.{ident_fields}
use Rattle.decimal.specs.Printing.{unsigned_text}
use Rattle.dbc_words.specs.declared.value_type.ValueType.TheVariants.{Float}
use Rattle.office_looks.specs.Message.{field_facts, message_facts, message_table, message_text, signal_kinds}
use Rattle.office_looks.specs.declared.message_whole.TheConstants.{MESSAGE}
use Rattle.rows.specs.Fact.{of_maybe}
use Rattle.rows.specs.Lines.{kind_text, upright_text}

abbrev whole : ℕ → Number
whole n = record { mantissa = pos n; exponent = pos 0 }

abbrev torque : Signal
torque = record {
  name = codes "Torque";
  layout = record { start = 8; size = 8; order = Intel };
  signed = false;
  value_type = Integer;
  mux = Always;
  spn = 513;
  factor = whole 1;
  offset = record { mantissa = negsuc 124; exponent = pos 0 };
  minimum = record { mantissa = negsuc 124; exponent = pos 0 };
  maximum = whole 125;
  unit = codes "%";
  receivers = codes "Dash" ∷ codes "Gateway" ∷ [];
  comment = [];
  values = [];
}

abbrev speed : Signal
speed = record torque {
  name = codes "Speed";
  layout = record { start = 24; size = 16; order = Intel };
  spn = 190;
  factor = record { mantissa = pos 125; exponent = negsuc 2 };
  offset = whole 0;
  minimum = whole 0;
  maximum = record { mantissa = pos 8031875; exponent = negsuc 2 };
  unit = codes "rpm";
  receivers = codes "Dash" ∷ [];
  comment = codes "Engine speed,\nover two lines";
}

abbrev reason : Signal
reason = record torque {
  name = codes "DerateReason";
  layout = record { start = 7; size = 32; order = Motorola };
  signed = true;
  value_type = Float;
  mux = Under 3;
  spn = 0;
  offset = whole 0;
  minimum = whole 0;
  maximum = whole 63;
  unit = [];
  receivers = [];
  values = record { value = whole 3; text = codes "Exhaust fluid" } ∷ [];
}

-- engine speed, PGN 61444, with priority 3 and source address 254
abbrev engine : Message
engine = record {
  ident = Ext 217056510;
  name = codes "EngineSpeed";
  length = 8;
  transmitter = Some (codes "Engine");
  comment = codes "Electronic engine controller 1";
  signals = torque ∷ speed ∷ [];
}

-- torque control, PGN 0, to address 0 from address 11
abbrev control : Message
control = record engine { ident = Ext 201326603 }

abbrev view : View
view = record {
  name = codes "lab";
  kind = J1939;
  reviews = 1;
  phase = Draft;
  sheet = record empty_sheet { messages = engine ∷ [] };
  owners = codes "office" ∷ [];
  blocks = [];
  held = [];
  approvals = [];
  releases = [];
  used = [];
}

two_signals : flat_map kind_text (signal_kinds engine.signals)
    ≡ codes "signal          8|8@1+ -       513 Torque                 (1,-125)       [-125|125]     %25    Dash,Gateway\n"
    ++ codes "signal        24|16@1+ -       190 Speed                  (0.125,0)      [0|8031.875]   rpm    Dash\n"
    ++ codes "note        Speed                  Engine speed,%0aover two lines\n"
unfolding digits unsigned_text
two_signals = refl

all_lines : flat_map kind_text (signal_kinds (reason ∷ []))
    ≡ codes "signal         7|32@0- m3        - DerateReason           (1,0)          [0|63]         -      -\n"
    ++ codes "type        DerateReason float\n"
    ++ codes "value       DerateReason                3 Exhaust fluid\n"
unfolding digits unsigned_text
all_lines = refl

its_facts : upright_text MESSAGE (message_facts view (engine, codes "office"))
    ≡ codes "message     EngineSpeed\n"
    ++ codes "number      2364540158\n"
    ++ codes "identifier  ext 0cf004fe\n"
    ++ codes "pgn         61444\n"
    ++ codes "priority    3\n"
    ++ codes "source      254\n"
    ++ codes "destination -\n"
    ++ codes "length      8\n"
    ++ codes "transmitter Engine\n"
    ++ codes "owner       office\n"
    ++ codes "releases    -\n"
    ++ codes "since       new\n"
    ++ codes "comment     Electronic engine controller 1\n"
unfolding digits
its_facts = refl

an_address : field_facts (ident_fields control.ident)
    ≡ of_maybe (Some 0) ∷ of_maybe (Some 3) ∷ of_maybe (Some 11) ∷ of_maybe (Some 0) ∷ []
an_address = refl

no_fields : field_facts (ident_fields (Std 256))
    ≡ of_maybe None ∷ of_maybe None ∷ of_maybe None ∷ of_maybe None ∷ []
no_fields = refl

no_such_message : message_table (codes "Nothing") view ≡ None
no_such_message = refl

nor_its_lines : message_text (codes "Nothing") view ≡ None
nor_its_lines = refl
