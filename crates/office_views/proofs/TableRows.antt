-- The table computed on small sheets.
use Rattle.std.proofs.Common.{◌≡◌, [], ◌∷◌, None, Some, codes, refl}
use Rattle.std.specs.Fmt.{digits}
use Rattle.can_id.specs.declared.ident.Ident.TheVariants.{Std, Ext}
use Rattle.dbc_sheet.specs.Sheet.{empty_sheet}
use Rattle.dbc_sheet.specs.declared.message.Message.{Message}
use Rattle.office_views.specs.Table.{message_row, table_of}
use Rattle.office_views.specs.declared.table.TheConstants.{TABLE}
use Rattle.rows.specs.Lines.{line_text}

-- electronic engine controller 1 of SAE J1939-71, PGN 61444, with priority 3 and source address 254
abbrev engine : Message
engine = record {
  ident = Ext 217056510;
  name = codes "Msg1";
  length = 8;
  transmitter = Some (codes "ECU");
  comment =
      [];
  signals = [];
}

abbrev plain : Message
plain = record { ident = Std 256; name = codes "E1"; length = 64; transmitter = None; comment = []; signals = [] }

engine_line : line_text TABLE (message_row engine) ≡ codes "2364540158 ext 0cf004fe  61444    8    0 ECU Msg1\n"
unfolding digits
engine_line = refl

plain_line : line_text TABLE (message_row plain) ≡ codes "       256 std 00000100      -   64    0 - E1\n"
unfolding digits
plain_line = refl

none_there : table_of empty_sheet ≡ codes "messages 0 signals 0\n"
unfolding digits
none_there = refl

two_there : table_of (record empty_sheet { messages = plain ∷ engine ∷ [] })
    ≡ codes "       256 std 00000100      -   64    0 - E1\n2364540158 ext 0cf004fe  61444    8    0 ECU Msg1\nmessages 2 signals 0\n"
unfolding digits
two_there = refl
