-- Names of teams and nodes on a page.
use Rattle.std.specs.Prelude.{ℕ, ◌&&◌, not, Bool, List, unwrap_or, []}
use Rattle.std.specs.Borrow.{Bor}
use Rattle.std.specs.List.{list_any}
use Rattle.std.specs.Str.{bytes_eq}
use Rattle.dbc_sheet.specs.declared.message.Message.{Message}
use Rattle.office_types.specs.declared.state.GrantedBlock.{GrantedBlock}

abbrev pub text_of : Bor (List ℕ) → List ℕ
text_of name = name.now

-- the node that sends the message, no bytes where none is named
abbrev pub sender_of : Message → List ℕ
sender_of m = unwrap_or m.transmitter []

abbrev pub team_of : GrantedBlock → List ℕ
team_of granted = granted.team

abbrev pub has_team : List (List ℕ) → List ℕ → Bool
has_team teams team = list_any (λ t. bytes_eq t team) teams

-- the team neither requested the review nor approved
abbrev pub may_approve : List ℕ → List (List ℕ) → List ℕ → Bool
may_approve submitter approvals team = not (bytes_eq submitter team) && not (has_team approvals team)
