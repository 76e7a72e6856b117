-- What a field has: when two are equal, and the word that shows one. No word has a space.
use Rattle.std.specs.Prelude.{ℕ, ◌==◌, Bool, false, List, [], ◌∷◌, ◌++◌, codes, decimal, if◌then◌else◌}
use Rattle.std.specs.Cmp.Lexicographic.{pointwise}
use Rattle.std.specs.List.{flat_map}
use Rattle.std.specs.Str.{bytes_eq}
use Rattle.columns.specs.Word.{word, words}
use Rattle.decimal.specs.Number.{Number}
use Rattle.decimal.specs.Printing.{text_of}
use Rattle.decimal.specs.contracts.number.DecimalPartialEq.TheImpl as decimal_eq
use Rattle.dbc_sheet.specs.contracts.value_texts.ValueTextPartialEq.TheImpl as value_text_eq
use Rattle.dbc_sheet.specs.declared.value_texts.ValueText.{ValueText}

pub data Value : Type 0 where
  -- a whole number
  Whole : ℕ → Value
  -- a name, or what people wrote
  Word : List ℕ → Value
  -- a suspect parameter number, where 0 is none
  WholeOrNone : ℕ → Value
  Dec : Number → Value
  Names : List (List ℕ) → Value
  -- texts for values, in order
  Texts : List ValueText → Value

-- ---- when two are equal

abbrev pub same_names : List (List ℕ) → List (List ℕ) → Bool
same_names = pointwise bytes_eq

abbrev pub same_texts : List ValueText → List ValueText → Bool
same_texts = pointwise (value_text_eq.ghosts).eq

abbrev pub same_value : Value → Value → Bool
same_value (Whole m) (Whole n) = m == n
same_value (Word a) (Word b) = bytes_eq a b
same_value (WholeOrNone m) (WholeOrNone n) = m == n
same_value (Dec a) (Dec b) = (decimal_eq.ghosts).eq a b
same_value (Names a) (Names b) = same_names a b
same_value (Texts a) (Texts b) = same_texts a b
same_value a b = false

-- ---- how one is shown

abbrev pub spn_text : ℕ → List ℕ
spn_text n = if n == 0 then codes "-" else decimal n

-- a value and its text: `0:Off`
abbrev pub entry_text : ValueText → List ℕ
entry_text v = text_of v.value ++ (codes ":" ++ word v.text)

-- a comma and the text for each
abbrev pub later_entries : List ValueText → List ℕ
later_entries entries = flat_map (λ v. codes "," ++ entry_text v) entries

-- with commas between: `0:Off,1:On`; none as `-`
abbrev pub entries_text : List ValueText → List ℕ
entries_text [] = codes "-"
entries_text (v ∷ entries) = entry_text v ++ later_entries entries

abbrev pub value_text : Value → List ℕ
value_text (Whole n) = decimal n
value_text (Word bytes) = word bytes
value_text (WholeOrNone n) = spn_text n
value_text (Dec d) = text_of d
value_text (Names names) = words names
value_text (Texts entries) = entries_text entries
