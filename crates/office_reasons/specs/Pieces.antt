-- Names, numbers and identifiers in sentences, and what a sentence is.
use Rattle.std.specs.Prelude.{ℕ, ◌==◌, ◌&&◌, nat_le, Bool, true, IsTrue, List, ◌++◌, codes, decimal, if◌then◌else◌}
use Rattle.std.specs.List.{list_all}
use Rattle.std.specs.Fmt.{digits}
use Rattle.std.specs.Str.{is_utf8}
use Rattle.can_id.specs.Ident.{form_of, ident_number}
use Rattle.can_id.specs.declared.ident.Ident.{Ident}
use Rattle.can_id.specs.Form.{ident_word}
use Rattle.office_types.specs.declared.block.Block.{Block}

-- printable ASCII
abbrev pub is_printable : ℕ → Bool
is_printable b = nat_le 32 b && nat_le b 126

-- one line, which a terminal prints and doesn't carry out
abbrev pub IsSentence : List ℕ → Type 0
IsSentence bytes = IsTrue (list_all is_printable bytes)

-- a name, which is ASCII
abbrev pub shown : List ℕ → List ℕ
shown bytes = if is_utf8 bytes then bytes else codes "?"

-- `256`, or `256 to 258`
abbrev pub range_text : Block → List ℕ
range_text b = if b.first == b.last then decimal b.first else decimal b.first ++ (codes " to " ++ decimal b.last)

-- `std 256 (0x100)`
abbrev pub ident_text : Ident → List ℕ
ident_text i = ident_word (form_of i) ++ (codes " " ++ (decimal (ident_number i)
    ++ (codes " (0x" ++ (digits 16 true (ident_number i) ++ codes ")"))))
