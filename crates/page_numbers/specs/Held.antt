-- The identifiers that are held for good, as HTML.
use Rattle.std.specs.Prelude.{ℕ, ◌==◌, Bool, List, [], ◌++◌, Option, Some, None, codes, length, map, unwrap_or}
use Rattle.std.specs.Prelude.{if◌then◌else◌}
use Rattle.std.specs.List.{flat_map}
use Rattle.can_id.specs.Ident.{dbc_number}
use Rattle.can_id.specs.J1939.{Fields, ident_fields, pgn_of}
use Rattle.can_id.specs.declared.ident.Ident.{Ident}
use Rattle.dbc_sheet.specs.declared.sheet.Sheet.{Sheet}
use Rattle.markup.specs.Html.{element_html}
use Rattle.markup.specs.declared.tag.Tag.TheVariants as tag
use Rattle.office_seen.specs.Owners.{last_name, team_of}
use Rattle.office_seen.specs.Since.{releases_text}
use Rattle.office_types.specs.declared.state.GrantedBlock.{GrantedBlock}
use Rattle.page_parts.specs.Letters.{badge}
use Rattle.page_parts.specs.Numbers.{ident_hex}
use Rattle.page_parts.specs.Subjects.{names_of}
use Rattle.page_parts.specs.Words.{cell, number_cell}
use Rattle.page_parts.specs.declared.subject.Subject.{Subject}
use Rattle.page_numbers.specs.Elements.{around, part_html, table_html, wide_html}
use Rattle.page_numbers.specs.declared.held.TheConstants.{GROUP_HEADS, HEADS}

-- ---- a row

-- the parameter group of these fields, if there are any
abbrev pub group_cell : Option Fields → List ℕ
group_cell None = element_html tag.Cell [] []
group_cell (Some f) = number_cell (pgn_of f)

-- the identifier, at the head of a row
abbrev pub ident_head : Ident → List ℕ
ident_head i = around tag.HeadCell [] (around tag.Code [] (ident_hex i))

-- the identifier, its DBC number, and on a J1939 network its parameter group
unfoldable pub number_cells : Bool → Ident → List ℕ
number_cells is_j1939 i =
    ident_head i
    ++ (number_cell (dbc_number i) ++ (if is_j1939 then group_cell (ident_fields i) else []))

-- its name in the last release that has it, a dash where none has
unfoldable pub name_cell : Option (List ℕ) → List ℕ
name_cell name = element_html tag.Cell [] (unwrap_or name (codes "-"))

-- the team of its block, if it is in one
unfoldable pub team_cell : List (List ℕ) → Option (List ℕ) → List ℕ
team_cell names None = element_html tag.Cell [] []
team_cell names (Some team) = cell (badge names team)

-- a row: the identifier's numbers, its last name, its releases, and whose its block is
unfoldable pub held_row : Bool → List (List ℕ) → List GrantedBlock → List Sheet → Ident → List ℕ
held_row is_j1939 names blocks releases i =
    around tag.Row []
    (number_cells is_j1939 i ++ (name_cell (last_name releases i)
    ++ (element_html tag.Cell [] (releases_text releases (dbc_number i))
    ++ team_cell names (team_of blocks i))))

-- ---- all

abbrev pub heads_of : Bool → List (List ℕ)
heads_of is_j1939 = map (λ head. head.now) (if is_j1939 then GROUP_HEADS.now else HEADS.now)

-- a row for each, in order
abbrev pub held_table : Subject → List Sheet → List ℕ
held_table subject releases =
    table_html (codes "nums") (heads_of subject.is_j1939)
    (flat_map (held_row subject.is_j1939 (names_of subject) subject.blocks.now releases) subject.held.now)

-- the part, if any is held
abbrev pub held_html : Subject → List Sheet → List ℕ
held_html subject releases =
    if length subject.held.now == 0 then []
    else part_html (codes "held") (codes "Held for good") None (wide_html (codes "Held") (held_table subject releases))
