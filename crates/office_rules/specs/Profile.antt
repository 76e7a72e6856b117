-- The profile under which an arrival came: it says which texts read as a sheet.
use Rattle.std.specs.Prelude.{ℕ, ◌≤◌, List, All}
use Rattle.dbc_grammar.specs.Reads.{Reads}
use Rattle.dbc_sheet.specs.declared.sheet.Sheet.{Sheet}

-- Under the first profile no message was longer than 64 bytes. The second one has the lengths of today.
pub data Profile : Type 0 where
  One : Profile
  Two : Profile

-- the greatest length of a message under the first profile
abbrev pub old_length_limit : ℕ
old_length_limit = 64

abbrev pub IsOfProfile : Profile → Sheet → Type 0
IsOfProfile One s = All (λ m. m.length ≤ old_length_limit) s.messages
IsOfProfile Two s = Unit {0}

-- the text reads as the sheet, and the profile has such sheets
abbrev pub ReadsUnder : Profile → List ℕ → Sheet → Type 0
ReadsUnder p text s = Reads text s × IsOfProfile p s
