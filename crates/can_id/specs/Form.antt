-- The two forms of identifiers, and their words (ISO 11898-1, base and extended frame format).
use Rattle.std.specs.Prelude.{ℕ, List, codes}
use Rattle.can_id.specs.declared.form.IdentForm.{IdentForm}
use Rattle.can_id.specs.declared.form.IdentForm.TheVariants.{Standard, Extended}

-- the greatest 11-bit number, and the greatest 29-bit number
abbrev pub greatest_number : IdentForm → ℕ
greatest_number Standard = 2047
greatest_number Extended = 536870911

abbrev pub ident_word : IdentForm → List ℕ
ident_word Standard = codes "std"
ident_word Extended = codes "ext"
