-- Who has a name or a number, computed on a small network.
use Rattle.office_looks.proofs.Common.{◌≡◌, false, ℕ, List, [], ◌∷◌, ◌++◌, None, Some, codes, refl, option_map, pos}
use Rattle.office_looks.proofs.Common.{Intel, Always, Number, Integer, empty_sheet, Message, Sheet, Signal, Pgn}
use Rattle.office_looks.proofs.Common.{BlockForm, J1939, GrantedBlock, Draft, View, table_text}
use Rattle.std.specs.Fmt.{digits}
use Rattle.can_id.specs.declared.ident.Ident.{Ident}
use Rattle.can_id.specs.declared.ident.Ident.TheVariants as id
use Rattle.office_types.specs.declared.block.BlockForm.TheVariants.{Std, Ext, Spn}
use Rattle.office_types.specs.declared.sought.Sought.TheVariants as sought
use Rattle.office_looks.specs.Who.{numbers_sought, who_table}

abbrev zero_value : Number
zero_value = record { mantissa = pos 0; exponent = pos 0 }

abbrev limit : Signal
limit = record {
  name = codes "Limit";
  layout = record { start = 0; size = 8; order = Intel };
  signed = false;
  value_type = Integer;
  mux = Always;
  spn = 516098;
  factor = record { mantissa = pos 1; exponent = pos 0 };
  offset = zero_value;
  minimum = zero_value;
  maximum = zero_value;
  unit = [];
  receivers = [];
  comment = [];
  values = [];
}

abbrev message : Ident → List ℕ → List Signal → Message
message ident name signals =
    record { ident = ident; name = name; length = 8; transmitter = None; comment = []; signals = signals }

abbrev sheet : List Message → Sheet
sheet messages = record empty_sheet { messages = messages }

abbrev granted : BlockForm → ℕ → ℕ → List ℕ → GrantedBlock
granted form first last team = record { block = record { form = form; first = first; last = last }; team = team }

-- The first message has an identifier of 11 bits. The second has the group 0 and goes to the address 0; its identifier
-- and its group are in blocks of two teams. The group 65300 is held.
abbrev truck : View
truck = record {
  name = codes "truck";
  kind = J1939;
  reviews = 1;
  phase = Draft;
  sheet = sheet (message (id.Std 256) (codes "Wake") [] ∷ message (id.Ext 201326603) (codes "TSC1") (limit ∷ []) ∷ []);
  owners = codes "dash" ∷ codes "brakes" ∷ [];
  blocks =
      granted Std 256 257 (codes "dash") ∷ granted Ext 201326603 201326603 (codes "brakes")
      ∷ granted Pgn 0 0 (codes "gearbox") ∷ granted Pgn 65300 65309 (codes "brakes")
      ∷ granted Spn 516096 516105 (codes "engine") ∷ [];
  held = id.Ext 486478859 ∷ [];
  approvals = [];
  releases = sheet (message (id.Ext 486478859) (codes "Pads") [] ∷ []) ∷ [];
  used = 516098 ∷ [];
}

-- the blocks of its identifier and of its group
named : option_map table_text (who_table (sought.Name (codes "TSC1")) truck)
    ≡ Some (codes "live  2348810251 ext 0c00000b      0    8    1 brakes           - new     - TSC1\n"
    ++ (codes "block ext 201326603 201326603 brakes       live    1 held   0 free     0 -\n"
    ++ (codes "block pgn         0         0 gearbox      live    1 held   0 free     0 -\n"
    ++ codes "live 1 held 0 spns 0 blocks 2\n")))
unfolding digits
named = refl

-- a group that a held identifier has
group : option_map table_text (who_table (sought.Decimal 65300) truck)
    ≡ Some (codes "held  2633962507 ext 1cff140b  65300 brakes           1 Pads\n"
    ++ (codes "block pgn     65300     65309 brakes       live    0 held   1 free     9 65301-65309\n"
    ++ codes "live 0 held 1 spns 0 blocks 1\n"))
unfolding digits
group = refl

-- the same number as an identifier, whose group is 0
ident : option_map table_text (who_table (sought.Hexadecimal 65300) truck)
    ≡ Some (codes "block pgn         0         0 gearbox      live    1 held   0 free     0 -\n"
    ++ codes "live 0 held 0 spns 0 blocks 1\n")
unfolding digits
ident = refl

-- a suspect parameter number, and no group of this number
spn : option_map table_text (who_table (sought.Spn 516098) truck)
    ≡ Some (codes "spn   516098 live     - 2348810251 ext 0c00000b      0 TSC1 Limit\n"
    ++ (codes "block spn    516096    516105 engine       live    1 held   0 free     9 516096-516097,516099-516105\n"
    ++ codes "live 0 held 0 spns 1 blocks 1\n"))
unfolding digits
spn = refl

nobody : who_table (sought.Name (codes "nobody")) truck ≡ None
nobody = refl

-- what a DBC file writes for an identifier of 29 bits
written : numbers_sought (sought.Decimal 2348810251) ≡ (Ext, 201326603) ∷ (Pgn, 0) ∷ []
written = refl
