-- Whose a number is, and what it was called last.
use Rattle.std.specs.Prelude.{ℕ, List, find, Option, Some, None, option_map}
use Rattle.std.specs.List.{filter_map, last_or}
use Rattle.can_id.specs.Ident.{dbc_number}
use Rattle.can_id.specs.J1939.{fields_of, pgn_of}
use Rattle.can_id.specs.declared.ident.Ident.{Ident}
use Rattle.can_id.specs.declared.ident.Ident.TheVariants as id
use Rattle.dbc_sheet.specs.Messages.{message_at}
use Rattle.dbc_sheet.specs.declared.message.Message.{Message}
use Rattle.dbc_sheet.specs.declared.sheet.Sheet.{Sheet}
use Rattle.office_types.specs.declared.block.BlockForm.{BlockForm}
use Rattle.office_types.specs.declared.block.BlockForm.TheVariants as form
use Rattle.office_types.specs.declared.state.GrantedBlock.{GrantedBlock}
use Rattle.office_seen.specs.Granted.{has_number_in}

-- the team of the first block that has the number
abbrev pub team_at : List GrantedBlock → BlockForm → ℕ → Option (List ℕ)
team_at blocks form n = option_map (λ (g : GrantedBlock). g.team) (find (has_number_in form n) blocks)

-- the team of the block of its parameter group, else of its number; none where no block has either
abbrev pub team_of : List GrantedBlock → Ident → Option (List ℕ)
team_of blocks (id.Std n) = team_at blocks form.Std n
team_of blocks (id.Ext n) = elim (team_at blocks form.Pgn (pgn_of (fields_of n))) [
  | Some team ↦ Some team
  | None ↦ team_at blocks form.Ext n
]

-- its name in the last release that has it; none where none has
abbrev pub last_name : List Sheet → Ident → Option (List ℕ)
last_name releases i =
    last_or None (filter_map
    (λ (s : Sheet). option_map (λ (m : Message). m.name) (message_at s.messages (dbc_number i))) releases)
