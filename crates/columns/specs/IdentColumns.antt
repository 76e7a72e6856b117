-- The four columns of an identifier, 30 wide: DBC number, `std` or `ext`, identifier, PGN.
use Rattle.std.specs.Prelude.{ℕ, List, ◌++◌, false, codes, decimal}
use Rattle.std.specs.Fmt.{digits}
use Rattle.std.specs.Option.{option_map_or}
use Rattle.can_id.specs.Ident.{dbc_number, ident_number}
use Rattle.can_id.specs.J1939.{ident_fields, pgn_of}
use Rattle.can_id.specs.declared.ident.Ident.{Ident}
use Rattle.can_id.specs.declared.ident.Ident.TheVariants.{Std, Ext}
use Rattle.columns.specs.Padding.{filled, set_left, set_right}

-- how many bits the identifier has
abbrev pub form_word : Ident → List ℕ
form_word (Std n) = codes "std"
form_word (Ext n) = codes "ext"

-- its number in 8 lower case hexadecimal digits
abbrev pub hexadecimal : Ident → List ℕ
hexadecimal ident = filled 48 8 (digits 16 false (ident_number ident))

-- its parameter group number; an 11-bit identifier has none
abbrev pub group_text : Ident → List ℕ
group_text ident = option_map_or (λ fields. decimal (pgn_of fields)) (ident_fields ident) (codes "-")

abbrev pub ident_columns : Ident → List ℕ
ident_columns ident = set_right 10 (decimal (dbc_number ident))
    ++ (codes " " ++ (form_word ident
    ++ (codes " " ++ (hexadecimal ident ++ (codes " " ++ set_right 6 (group_text ident))))))

-- the columns of nothing
abbrev pub no_ident_columns : List ℕ
no_ident_columns = set_right 10 (codes "-")
    ++ (codes " " ++ (set_left 3 (codes "-")
    ++ (codes " " ++ (set_left 8 (codes "-") ++ (codes " " ++ set_right 6 (codes "-"))))))
