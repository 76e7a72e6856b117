-- Who has a name or a number.
use Rattle.std.specs.Prelude.{ℕ, ◌-◌, ◌==◌, ◌&&◌, ◌||◌, Bool, true, false, List, [], ◌∷◌, ◌++◌, length, map, filter}
use Rattle.std.specs.Prelude.{codes, Option, Some, None, unwrap_or, if◌then◌else◌, nat_lt}
use Rattle.std.specs.List.{flat_map, list_any}
use Rattle.std.specs.Str.{bytes_eq}
use Rattle.can_id.specs.Ident.{dbc_number, extended_flag, ident_in, ident_number}
use Rattle.can_id.specs.J1939.{fields_of, is_pgn, pgn_of}
use Rattle.can_id.specs.declared.form.IdentForm.TheVariants.{Standard, Extended}
use Rattle.can_id.specs.declared.ident.Ident.{Ident}
use Rattle.can_id.specs.declared.ident.Ident.TheVariants as id
use Rattle.dbc_sheet.specs.declared.message.Message.{Message}
use Rattle.office_rules.specs.Facts.{group_of}
use Rattle.office_types.specs.declared.block.BlockForm.{BlockForm}
use Rattle.office_types.specs.declared.block.BlockForm.TheVariants as form
use Rattle.office_types.specs.declared.sought.Sought.{Sought}
use Rattle.office_types.specs.declared.sought.Sought.TheVariants as sought
use Rattle.office_types.specs.declared.state.GrantedBlock.{GrantedBlock}
use Rattle.office_seen.specs.Granted.{has_number_in}
use Rattle.office_seen.specs.View.{owned}
use Rattle.office_seen.specs.declared.view.View.{View}
use Rattle.office_blocks.specs.Blocks.{block_row}
use Rattle.office_blocks.specs.declared.blocks.TheConstants.{BLOCKS}
use Rattle.office_spns.specs.Spns.{shown_spns, spn_rows}
use Rattle.office_spns.specs.declared.spns.TheConstants.{SPNS}
use Rattle.office_seen.specs.Owners.{last_name}
use Rattle.office_looks.specs.Held.{held_row}
use Rattle.office_looks.specs.Message.{kind}
use Rattle.office_looks.specs.Messages.{message_row}
use Rattle.office_looks.specs.declared.held.TheConstants.{HELD}
use Rattle.office_looks.specs.declared.messages.TheConstants.{MESSAGES}
use Rattle.office_looks.specs.declared.who.TheConstants.{WHO_TOTALS}
use Rattle.rows.specs.Fact.{Fact, of_number}
use Rattle.rows.specs.Table.{Listing, Kind, totalled}

-- ---- what has what is looked for

abbrev pub is_group : ℕ → Option ℕ → Bool
is_group n None = false
is_group n (Some group) = group == n

-- the identifier has the number, or a DBC file writes it as the number
abbrev pub has_digits : ℕ → Ident → Bool
has_digits n i = (dbc_number i == n) || (ident_number i == n)

-- a message of this identifier and name is looked for
abbrev pub is_sought : Sought → Ident → List ℕ → Bool
is_sought (sought.Name name) i other = bytes_eq other name
is_sought (sought.Hexadecimal n) i other = has_digits n i
is_sought (sought.Decimal n) i other = has_digits n i || is_group n (group_of i)
is_sought (sought.Group n) i other = is_group n (group_of i)
is_sought (sought.Spn n) i other = false

-- the live messages, with their owners
abbrev pub live_hits : Sought → View → List (Message × List ℕ)
live_hits s view = filter (λ (p : Message × List ℕ). is_sought s p.0.ident p.0.name) (owned view)

-- the held identifiers, whose names are those in the last release that has them
abbrev pub held_hits : Sought → View → List Ident
held_hits s view = filter (λ i. is_sought s i (unwrap_or (last_name view.releases i) [])) view.held

-- the suspect parameter number is looked for
abbrev pub is_spn_sought : Sought → ℕ → Bool
is_spn_sought (sought.Decimal n) spn = spn == n
is_spn_sought (sought.Spn n) spn = spn == n
is_spn_sought s spn = false

-- the suspect parameter numbers
abbrev pub spn_hits : Sought → View → List ℕ
spn_hits s view = filter (is_spn_sought s) (shown_spns view)

-- ---- blocks

abbrev pub Numbered : Type 0
Numbered = BlockForm × ℕ

-- the numbers of an identifier, by the form of the blocks that may have them
abbrev pub numbers_of : Ident → List Numbered
numbers_of (id.Std n) = (form.Std, n) ∷ []
numbers_of (id.Ext n) = (form.Ext, n) ∷ (form.Pgn, pgn_of (fields_of n)) ∷ []

-- of the identifier, if there is one
abbrev pub numbers_if : Option Ident → List Numbered
numbers_if None = []
numbers_if (Some i) = numbers_of i

-- the identifier that a DBC file writes as the number
abbrev pub ident_written : ℕ → Option Ident
ident_written n = if nat_lt n extended_flag then ident_in Standard n else ident_in Extended (n - extended_flag)

abbrev pub each_form : ℕ → List Numbered
each_form n = (form.Std, n) ∷ (form.Ext, n) ∷ (form.Pgn, n) ∷ (form.Spn, n) ∷ []

-- The numbers that are looked for. A hexadecimal one is that of an identifier of 11 or of 29 bits, or what a DBC file
-- writes for one of 29; a decimal one may be of any form, or what a DBC file writes for an identifier of 29 bits.
abbrev pub numbers_sought : Sought → List Numbered
numbers_sought (sought.Name name) = []
numbers_sought (sought.Hexadecimal n) = numbers_if (ident_written n) ++ numbers_if (ident_in Extended n)
numbers_sought (sought.Decimal n) = if nat_lt n extended_flag then each_form n else numbers_if (ident_written n)
numbers_sought (sought.Group n) = (form.Pgn, n) ∷ []
numbers_sought (sought.Spn n) = (form.Spn, n) ∷ []

-- the numbers of the live messages, and of the held identifiers, that are looked for
abbrev pub live_numbers : Sought → View → List Numbered
live_numbers s view = flat_map (λ (p : Message × List ℕ). numbers_of p.0.ident) (live_hits s view)

abbrev pub held_numbers : Sought → View → List Numbered
held_numbers s view = flat_map numbers_of (held_hits s view)

-- the numbers that are looked for, and those of what is shown
abbrev pub numbers_shown : Sought → View → List Numbered
numbers_shown s view = (numbers_sought s ++ live_numbers s view) ++ held_numbers s view

-- a block of parameter groups has no other numbers
abbrev pub is_number_of : Numbered → Bool
is_number_of (form.Pgn, n) = is_pgn n
is_number_of (form, n) = true

-- the block has one of the numbers
abbrev pub has_one : List Numbered → GrantedBlock → Bool
has_one numbers g = list_any (λ (f : Numbered). is_number_of f && has_number_in f.0 f.1 g) numbers

abbrev pub block_hits : Sought → View → List GrantedBlock
block_hits s view = filter (has_one (numbers_shown s view)) view.blocks

-- ---- the rows: those of the other looks, each with its kind

abbrev pub live_rows : Sought → View → List (List Fact)
live_rows s view = map (message_row view) (live_hits s view)

abbrev pub held_rows : Sought → View → List (List Fact)
held_rows s view = map (held_row view) (held_hits s view)

abbrev pub spn_hit_rows : Sought → View → List (List Fact)
spn_hit_rows s view = flat_map (spn_rows view) (spn_hits s view)

abbrev pub block_rows : Sought → View → List (List Fact)
block_rows s view = map (block_row view) (block_hits s view)

abbrev pub kinds : (live held spns blocks : List (List Fact)) → List Kind
kinds live held spns blocks =
    kind (codes "live  ") MESSAGES live ∷ kind (codes "held  ") HELD held ∷ kind (codes "spn   ") SPNS spns
    ∷ kind (codes "block ") BLOCKS blocks ∷ []

abbrev pub row_counts : (live held spns blocks : List (List Fact)) → List ℕ
row_counts live held spns blocks = length live ∷ length held ∷ length spns ∷ length blocks ∷ []

abbrev pub kinds_table : (live held spns blocks : List (List Fact)) → Listing
kinds_table live held spns blocks =
    totalled (kinds live held spns blocks) WHO_TOTALS (map of_number (row_counts live held spns blocks))

-- nothing where there are no rows
abbrev pub listing : (live held spns blocks : List (List Fact)) → Option Listing
listing live held spns blocks =
    if list_any (nat_lt 0) (row_counts live held spns blocks) then Some (kinds_table live held spns blocks) else None

-- nothing where nobody has it
abbrev pub who_table : Sought → View → Option Listing
who_table s view = listing (live_rows s view) (held_rows s view) (spn_hit_rows s view) (block_rows s view)
