use Rattle.dbc_statements.proofs.Common.{◌≡◌, ℕ, Option, Some, None, Ok, Err, refl, sym}
use Rattle.std.proofs.Common.{Result}
use Rattle.std.specs.Prelude.{IfErr, IfOk}
use Rattle.std.specs.Result.{result_ok}
use Rattle.can_id.specs.Ident.{IsIdentifier, dbc_number}
use Rattle.can_id.specs.declared.fault.IdFault.{IdFault}
use Rattle.can_id.specs.declared.fault.IdFault.TheVariants.{NotIdentifier}
use Rattle.can_id.specs.declared.ident.Ident.{Ident}
use Rattle.dbc_grammar.specs.Fields.{ident_of}
use Rattle.dbc_grammar.proofs.Identifiers.{numbers_are_identifiers}
use Rattle.dbc_statements.proofs.words.ident_of.Goals as goal

none : (n : ℕ) (o : Option Ident) → ident_of n ≡ o → ((ident : Ident) → IsIdentifier ident → dbc_number ident ≡ n → ⊥)
    → None ≡ o
none n None e other = refl
none n (Some ident) e other = let is = (numbers_are_identifiers n ident).0 e in absurd (other ident is.0 is.1)

found : (n : ℕ) (r : Result Ident IdFault) → IfOk r (λ ident. dbc_number ident ≡ n) → IfOk r IsIdentifier
    → IfErr r (λ fault. (fault ≡ NotIdentifier) × ((ident : Ident) → IsIdentifier ident → dbc_number ident ≡ n → ⊥))
    → result_ok r ≡ ident_of n
found n (Ok ident) number is other = sym ((numbers_are_identifiers n ident).1 (is, number))
found n (Err fault) number is other = none n (ident_of n) refl other.1

pub returns : goal.returns
returns c = rw c.ok.ensures.value
    (found c.args.number c.from_dbc.result c.from_dbc.ensures.number c.from_dbc.ensures.identifier
    c.from_dbc.ensures.none)
