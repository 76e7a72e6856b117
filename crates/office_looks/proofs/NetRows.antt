-- The state, the messages, the held identifiers and the releases of a small network, and what changed in it.
use Rattle.office_looks.proofs.Common.{◌≡◌, List, [], ◌∷◌, ◌++◌, None, Some, codes, refl, option_map, Std, Ext}
use Rattle.office_looks.proofs.Common.{empty_sheet, Message, Sheet, Pgn, J1939, View, table_text}
use Rattle.std.specs.Fmt.{digits}
use Rattle.office_types.specs.declared.state.Phase.TheVariants.{Review}
use Rattle.dbc_compare.specs.Differences.{differences_about, field_changes, pair_differences, thing_differences}
use Rattle.office_looks.specs.Compared.{compared_table}
use Rattle.office_looks.specs.Held.{held_row, held_table}
use Rattle.office_looks.specs.Messages.{messages_table}
use Rattle.office_looks.specs.Releases.{releases_table}
use Rattle.office_looks.specs.State.{state_table}
use Rattle.office_looks.specs.declared.held.TheConstants.{HELD}
use Rattle.rows.specs.Lines.{line_text}

abbrev plain : Message
plain = record { ident = Std 256; name = codes "E1"; length = 64; transmitter = None; comment = []; signals = [] }

-- of parameter group 65292
abbrev group : Message
group = record {
  ident = Ext 419367936;
  name = codes "ECM_New1";
  length = 8;
  transmitter = Some (codes "ECM");
  comment = [];
  signals = [];
}

-- of parameter group 65300
abbrev pads : Message
pads = record {
  ident = Ext 486478859;
  name = codes "BrakePads";
  length = 8;
  transmitter = None;
  comment = [];
  signals = [];
}

abbrev sheet_with : List Message → Sheet
sheet_with messages = record empty_sheet { messages = messages }

-- under review, with two live messages and two releases
abbrev truck : View
truck = record {
  name = codes "truck";
  kind = J1939;
  reviews = 2;
  phase = Review (codes "engine");
  sheet = sheet_with (plain ∷ group ∷ []);
  owners = codes "brakes" ∷ codes "engine" ∷ [];
  blocks = record { block = record { form = Pgn; first = 65300; last = 65309 }; team = codes "brakes" } ∷ [];
  held = Ext 486478859 ∷ [];
  approvals = codes "brakes" ∷ [];
  releases = sheet_with (plain ∷ pads ∷ []) ∷ sheet_with (plain ∷ []) ∷ [];
  used = [];
}

-- the same before its first release, with no message
abbrev new_truck : View
new_truck = record truck { sheet = empty_sheet; owners = []; held = []; approvals = []; releases = [] }

state : table_text (state_table truck)
    ≡ codes "network     truck\n"
    ++ codes "kind        j1939\n"
    ++ codes "phase       review\n"
    ++ codes "submitted   engine\n"
    ++ codes "approved    brakes\n"
    ++ codes "lacking     1 of 2\n"
    ++ codes "releases    2\n"
    ++ codes "added       1\n"
    ++ codes "removed     0\n"
    ++ codes "changed     0\n"
    ++ codes "held        1\n"
    ++ codes "blocks      1\n"
    ++ codes "nodes       0\n"
    ++ codes "messages    2\n"
    ++ codes "signals     0\n"
unfolding digits
state = refl

no_approval : table_text (state_table new_truck)
    ≡ codes "network     truck\n"
    ++ codes "kind        j1939\n"
    ++ codes "phase       review\n"
    ++ codes "submitted   engine\n"
    ++ codes "approved    -\n"
    ++ codes "lacking     2 of 2\n"
    ++ codes "releases    0\n"
    ++ codes "added       0\n"
    ++ codes "removed     0\n"
    ++ codes "changed     0\n"
    ++ codes "held        0\n"
    ++ codes "blocks      1\n"
    ++ codes "nodes       0\n"
    ++ codes "messages    0\n"
    ++ codes "signals     0\n"
unfolding digits
no_approval = refl

all_messages : table_text (messages_table None truck)
    ≡ codes "       256 std 00000100      -   64    0 brakes         1-2 -       - E1\n"
    ++ codes "2566851584 ext 18ff0c00  65292    8    0 engine           - new     ECM ECM_New1\n"
    ++ codes "messages 2 signals 0\n"
unfolding digits
all_messages = refl

changed_message : table_text (messages_table (Some (codes "brakes"))
    (record truck { sheet = sheet_with (record plain { length = 8 } ∷ group ∷ []) }))
    ≡ codes "       256 std 00000100      -    8    0 brakes         1-2 changed - E1\nmessages 1 signals 0\n"
unfolding digits
changed_message = refl

no_messages : table_text (messages_table (Some (codes "chassis")) truck) ≡ codes "messages 0 signals 0\n"
unfolding digits
no_messages = refl

held : table_text (held_table truck) ≡ codes "2633962507 ext 1cff140b  65300 brakes           1 BrakePads\nheld 1\n"
unfolding digits
held = refl

-- of no block, and in no release
held_alone : line_text HELD (held_row truck (Std 7)) ≡ codes "         7 std 00000007      - -                - -\n"
unfolding digits
held_alone = refl

none_held : table_text (held_table new_truck) ≡ codes "held 0\n"
unfolding digits
none_held = refl

releases : table_text (releases_table truck)
    ≡ codes "    1 messages     2 signals     0 added    2 removed    0 changed    0\n"
    ++ codes "    2 messages     1 signals     0 added    0 removed    1 changed    0\n"
    ++ codes "releases 2\n"
unfolding digits
releases = refl

no_releases : table_text (releases_table new_truck) ≡ codes "releases 0\n"
unfolding digits
no_releases = refl

between_releases : option_map table_text (compared_table 1 2 truck)
    ≡ Some (codes "! message 2633962507 ext 1cff140b  65300 BrakePads removed\n"
    ++ codes "differences 1 breaking 1 added 0 removed 1 changed 0\n")
unfolding digits differences_about field_changes pair_differences thing_differences
between_releases = refl

-- 0 is the live sheet
since_a_release : option_map table_text (compared_table 2 0 truck)
    ≡ Some (codes ". message 2566851584 ext 18ff0c00  65292 ECM_New1 added\n"
    ++ codes "differences 1 breaking 0 added 1 removed 0 changed 0\n")
unfolding digits differences_about field_changes pair_differences thing_differences
since_a_release = refl

nothing_changed : option_map table_text (compared_table 0 0 truck)
    ≡ Some (codes "differences 0 breaking 0 added 0 removed 0 changed 0\n")
unfolding digits differences_about field_changes pair_differences thing_differences
nothing_changed = refl

no_such_release : compared_table 1 3 truck ≡ None
no_such_release = refl
