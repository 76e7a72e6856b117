-- Texts that were read, each with the sheet that it reads as.
use Rattle.std.specs.Prelude.{◌≡◌, ◌≤◌, ◌<◌, ◌+◌, ℕ, List, length, take}
use Rattle.std.specs.List.{AllZip, sum_by}
use Rattle.dbc_grammar.specs.Reads.{Reads}
use Rattle.dbc_sheet.specs.declared.sheet.Sheet.{Sheet}

-- whatever sheet the text reads as, it is this one
abbrev pub IsReadAs : List ℕ → Sheet → Type 0
IsReadAs text sheet = (other : Sheet) → Reads text other → sheet ≡ other

-- each text has its sheet in its place
abbrev pub AreReadAs : List (List ℕ) → List Sheet → Type 0
AreReadAs texts sheets = AllZip IsReadAs texts sheets

-- a text and its sheet
pub record TextRead : Type 0 where
  pub text : List ℕ
  pub sheet : Sheet

-- texts and their sheets
pub record TextsRead : Type 0 where
  pub texts : List (List ℕ)
  pub sheets : List Sheet

-- the first ones of them, so many
abbrev pub first_read : ℕ → TextsRead → TextsRead
first_read count read = record { texts = take count read.texts; sheets = take count read.sheets }

-- how many bytes the texts have together
abbrev pub text_bytes : List (List ℕ) → ℕ
text_bytes texts = sum_by length texts

-- at most so many bytes of text are remembered
abbrev pub remembered_limit : ℕ
remembered_limit = 33554432

-- the longest beginning of the texts that has at most so many bytes has so many texts
pub record IsLongestWithin (limit : ℕ) (texts : List (List ℕ)) (count : ℕ) : Type 0 where
  pub fits : text_bytes (take count texts) ≤ limit
  pub longest : count < length texts → limit < text_bytes (take (count + 1) texts)
