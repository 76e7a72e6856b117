-- Lines of blocks, computed.
use Rattle.office_blocks.proofs.Common.{◌≡◌, false, ℕ, List, [], ◌∷◌, ◌++◌, Some, None, refl, BlockForm, GrantedBlock}
use Rattle.office_blocks.proofs.Common.{least_free, View}
use Rattle.std.specs.Prelude.{codes, pos}
use Rattle.std.specs.Fmt.{digits}
use Rattle.bitlayout.specs.declared.layout.Order.TheVariants.{Intel}
use Rattle.bitlayout.specs.declared.place.Mux.TheVariants.{Always}
use Rattle.can_id.specs.declared.ident.Ident.{Ident}
use Rattle.can_id.specs.declared.ident.Ident.TheVariants as id
use Rattle.decimal.specs.Number.{Number}
use Rattle.dbc_words.specs.declared.value_type.ValueType.TheVariants.{Integer}
use Rattle.dbc_sheet.specs.Sheet.{empty_sheet}
use Rattle.dbc_sheet.specs.declared.message.Message.{Message}
use Rattle.dbc_sheet.specs.declared.signal.Signal.{Signal}
use Rattle.office_types.specs.declared.block.BlockForm.TheVariants.{Std, Ext, Pgn, Spn}
use Rattle.office_types.specs.declared.command.NetKind.TheVariants.{J1939}
use Rattle.office_types.specs.declared.free.NumberForm.TheVariants as number
use Rattle.office_types.specs.declared.state.Phase.TheVariants.{Draft}
use Rattle.office_blocks.specs.Blocks.{block_row, blocks_table, runs_in, taken_numbers}
use Rattle.office_blocks.specs.declared.blocks.TheConstants.{BLOCKS}
use Rattle.rows.specs.Lines.{line_text, table_text}

abbrev whole : ℕ → Number
whole n = record { mantissa = pos n; exponent = pos 0 }

abbrev signal : ℕ → Signal
signal spn = record {
  name = codes "S";
  layout = record { start = 0; size = 8; order = Intel };
  signed = false;
  mux = Always;
  factor = whole 1;
  offset = whole 0;
  minimum = whole 0;
  maximum = whole 0;
  unit = [];
  spn = spn;
  comment = [];
  values = [];
  receivers = [];
  value_type = Integer;
}

abbrev message : Ident → List Signal → Message
message ident signals =
    record { ident = ident; name = codes "M"; length = 8; transmitter = None; comment = []; signals = signals }

abbrev granted : BlockForm → ℕ → ℕ → List ℕ → GrantedBlock
granted form first last team = record { block = record { form = form; first = first; last = last }; team = team }

-- The last message has the group 65301, and the small identifiers of 29 bits have the group 0; the group 65300 is held,
-- and so is 1026. Of the numbers that were used, 191 and 516097 are on no live signal here.
abbrev seen : View
seen = record {
  name = codes "truck";
  kind = J1939;
  reviews = 1;
  phase = Draft;
  sheet = record empty_sheet {
    messages =
        message (id.Std 1024) [] ∷ message (id.Ext 102) [] ∷ message (id.Ext 104) [] ∷ message (id.Ext 106) []
        ∷ message (id.Ext 108) [] ∷ message (id.Ext 112) []
        ∷ message (id.Ext 486479115) (signal 516096 ∷ signal 0 ∷ signal 516096 ∷ []) ∷ [];
  };
  owners = [];
  blocks =
      granted Std 1024 1033 (codes "dash") ∷ granted Ext 101 112 (codes "body") ∷ granted Ext 500 500 (codes "dash")
      ∷ granted Pgn 65300 65309 (codes "brakes") ∷ granted Spn 191 191 (codes "engine")
      ∷ granted Spn 516096 516105 (codes "engine") ∷ [];
  held = id.Std 1026 ∷ id.Ext 486478859 ∷ [];
  approvals = [];
  releases = [];
  used = 191 ∷ 516096 ∷ 516097 ∷ [];
}

abbrev line_of : GrantedBlock → List ℕ
line_of g = line_text BLOCKS (block_row seen g)

-- one number is live and one held
groups_line : line_of (granted Pgn 65300 65309 (codes "brakes"))
    ≡ codes "pgn     65300     65309 brakes       live    1 held   1 free     8 65302-65309\n"
unfolding digits
groups_line = refl

-- a number that two signals have counts once, and one that is used elsewhere is held
spn_line : line_of (granted Spn 516096 516105 (codes "engine"))
    ≡ codes "spn    516096    516105 engine       live    1 held   1 free     8 516098-516105\n"
unfolding digits
spn_line = refl

-- nothing is left
none_left : line_of (granted Spn 191 191 (codes "transmission"))
    ≡ codes "spn       191       191 transmission live    0 held   1 free     0 -\n"
unfolding digits
none_left = refl

-- a gap of one number, and the rest
std_line : line_of (granted Std 1024 1033 (codes "dash"))
    ≡ codes "std      1024      1033 dash         live    1 held   1 free     8 1025,1027-1033\n"
unfolding digits
std_line = refl

-- four of five runs are shown
five_runs : line_of (granted Ext 101 112 (codes "body"))
    ≡ codes "ext       101       112 body         live    5 held   0 free     7 101,103,105,107,..\n"
unfolding digits
five_runs = refl

-- four of four are, and no mark
four_runs : line_of (granted Ext 101 107 (codes "body"))
    ≡ codes "ext       101       107 body         live    3 held   0 free     4 101,103,105,107\n"
unfolding digits
four_runs = refl

-- below 61440 only numbers with a low byte of 0 are groups
both_formats : line_of (granted Pgn 61183 61441 (codes "engine"))
    ≡ codes "pgn     61183     61441 engine       live    0 held   0 free     3 61184,61440-61441\n"
unfolding digits
both_formats = refl

-- neighbours are 256 apart there, and 0 is taken
addressed : runs_in (taken_numbers Pgn seen) (record { form = Pgn; first = 0; last = 512 }) number.Pdu1
    ≡ record { first = 256; last = 512 } ∷ []
addressed = refl

next_addressed : least_free (taken_numbers Pgn seen) (record { first = 0; last = 512 } ∷ []) number.Pdu1 ≡ Some 256
next_addressed = refl

-- the team's blocks alone, and what is left in them
of_team : table_text (blocks_table (Some (codes "dash")) seen)
    ≡ codes "std      1024      1033 dash         live    1 held   1 free     8 1025,1027-1033\n"
    ++ (codes "ext       500       500 dash         live    0 held   0 free     1 500\n"
    ++ codes "blocks 2 free std 8 ext 1 pgn 0 spn 0\n")
unfolding digits
of_team = refl

of_nobody : table_text (blocks_table (Some (codes "doors")) seen) ≡ codes "blocks 0 free std 0 ext 0 pgn 0 spn 0\n"
unfolding digits
of_nobody = refl

-- those of all teams
of_all : table_text (blocks_table None seen)
    ≡ codes "std      1024      1033 dash         live    1 held   1 free     8 1025,1027-1033\n"
    ++ (codes "ext       101       112 body         live    5 held   0 free     7 101,103,105,107,..\n"
    ++ (codes "ext       500       500 dash         live    0 held   0 free     1 500\n"
    ++ (codes "pgn     65300     65309 brakes       live    1 held   1 free     8 65302-65309\n"
    ++ (codes "spn       191       191 engine       live    0 held   1 free     0 -\n"
    ++ (codes "spn    516096    516105 engine       live    1 held   1 free     8 516098-516105\n"
    ++ codes "blocks 6 free std 8 ext 8 pgn 8 spn 8\n")))))
unfolding digits
of_all = refl
