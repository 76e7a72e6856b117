-- Suspect parameter numbers computed on a small network.
use Rattle.std.proofs.Common.{◌≡◌, false, ℕ, List, [], ◌∷◌, ◌++◌, None, codes, map, refl}
use Rattle.std.specs.Fmt.{digits}
use Rattle.std.specs.Prelude.{pos}
use Rattle.bitlayout.specs.declared.layout.Order.TheVariants.{Intel}
use Rattle.bitlayout.specs.declared.place.Mux.TheVariants.{Always}
use Rattle.can_id.specs.declared.ident.Ident.TheVariants.{Ext}
use Rattle.decimal.specs.Number.{Number}
use Rattle.dbc_words.specs.declared.value_type.ValueType.TheVariants.{Integer}
use Rattle.dbc_sheet.specs.Sheet.{empty_sheet}
use Rattle.dbc_sheet.specs.declared.message.Message.{Message}
use Rattle.dbc_sheet.specs.declared.sheet.Sheet.{Sheet}
use Rattle.dbc_sheet.specs.declared.signal.Signal.{Signal}
use Rattle.office_types.specs.Block.{Range}
use Rattle.office_types.specs.declared.block.BlockForm.TheVariants as form
use Rattle.office_types.specs.declared.command.NetKind.TheVariants.{J1939}
use Rattle.office_types.specs.declared.state.GrantedBlock.{GrantedBlock}
use Rattle.office_types.specs.declared.state.Phase.TheVariants.{Draft}
use Rattle.office_seen.specs.declared.view.View.{View}
use Rattle.office_spns.specs.Spns.{shown_spns, spn_rows, spns_table}
use Rattle.office_spns.specs.declared.spns.TheConstants.{SPNS}
use Rattle.rows.specs.Lines.{line_text, table_text}

abbrev zero_value : Number
zero_value = record { mantissa = pos 0; exponent = pos 0 }

abbrev signal : List ℕ → ℕ → Signal
signal name spn = record {
  name = name;
  layout = record { start = 0; size = 8; order = Intel };
  signed = false;
  value_type = Integer;
  mux = Always;
  spn = spn;
  factor = record { mantissa = pos 1; exponent = pos 0 };
  offset = zero_value;
  minimum = zero_value;
  maximum = zero_value;
  unit = [];
  receivers = [];
  comment = [];
  values = [];
}

abbrev message : ℕ → List ℕ → List Signal → Message
message ident name signals = record {
  ident = Ext ident;
  name = name;
  length = 8;
  transmitter = None;
  comment = [];
  signals = signals;
}

abbrev sheet : List Message → Sheet
sheet messages = record empty_sheet { messages = messages }

-- electronic engine controller 1 of SAE J1939-71, of which 190 and 513 are signals
abbrev engine : Message
engine = message 217056510 (codes "EngineSpeed")
    (signal (codes "Speed") 190 ∷ signal (codes "Spare") 0 ∷ signal (codes "Torque") 513 ∷ [])

abbrev card : List ℕ → Message
card name = message 486486766 name (signal (codes "CardDaysLeft") 516596 ∷ [])

abbrev block : Range → GrantedBlock
block numbers = record { block = numbers; team = codes "engine" }

-- 600 was used on another network, and only identifiers have a block with it here
abbrev truck : View
truck = record {
  name = codes "truck";
  kind = J1939;
  reviews = 1;
  phase = Draft;
  sheet = sheet (engine ∷ []);
  owners = codes "engine" ∷ [];
  blocks =
      block (record { form = form.Ext; first = 0; last = 1000 })
      ∷ block (record { form = form.Spn; first = 516096; last = 516096 }) ∷ [];
  held = [];
  approvals = [];
  releases = sheet (card (codes "Card") ∷ []) ∷ sheet (card (codes "DriverCard") ∷ []) ∷ [];
  used = 190 ∷ 513 ∷ 600 ∷ 516096 ∷ 516596 ∷ [];
}

abbrev lines_of : View → ℕ → List (List ℕ)
lines_of view n = map (line_text SPNS) (spn_rows view n)

shown : shown_spns truck ≡ 190 ∷ 513 ∷ 516096 ∷ 516596 ∷ []
shown = refl

live : lines_of truck 190 ≡ codes "   190 live     - 2364540158 ext 0cf004fe  61444 EngineSpeed Speed\n" ∷ []
unfolding digits
live = refl

-- where the last release has it
gone : lines_of truck 516596
    ≡ codes "516596 gone   1-2 2633970414 ext 1cff32ee  65330 DriverCard CardDaysLeft\n" ∷ []
unfolding digits
gone = refl

used : lines_of truck 516096 ≡ codes "516096 used     -          - -   -             - - -\n" ∷ []
unfolding digits
used = refl

abbrev other_card : Message
other_card = message 486486767 (codes "B") (signal (codes "DaysLeft") 516596 ∷ [])

-- a line for each of two places, and the release in which it was
twice : lines_of (record truck { sheet = sheet (engine ∷ card (codes "A") ∷ other_card ∷ []) }) 516596
    ≡ codes "516596 live   1-2 2633970414 ext 1cff32ee  65330 A CardDaysLeft\n"
    ∷ codes "516596 live   1-2 2633970415 ext 1cff32ef  65330 B DaysLeft\n" ∷ []
unfolding digits
twice = refl

whole : table_text (spns_table truck)
    ≡ codes "   190 live     - 2364540158 ext 0cf004fe  61444 EngineSpeed Speed\n"
    ++ (codes "   513 live     - 2364540158 ext 0cf004fe  61444 EngineSpeed Torque\n"
    ++ (codes "516096 used     -          - -   -             - - -\n"
    ++ (codes "516596 gone   1-2 2633970414 ext 1cff32ee  65330 DriverCard CardDaysLeft\n"
    ++ codes "spns 4 live 2 gone 1 used 1\n")))
unfolding digits
whole = refl

nothing_used : table_text (spns_table (record truck { used = [] })) ≡ codes "spns 0 live 0 gone 0 used 0\n"
unfolding digits
nothing_used = refl
