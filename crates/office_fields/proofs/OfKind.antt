-- A value of a kind.
use Rattle.std.proofs.Common.{◌≡◌, ℕ, Bool, List, subst, sym}
use Rattle.std.specs.Prelude.{IfOk, Result, is_some}
use Rattle.office_fields.specs.Value.{value_from}
use Rattle.office_fields.specs.declared.field.FieldKind.{FieldKind}

-- an answer for a kind is one for the kind that it is
pub of_kind : {E : Type 0} (result : Result Bool E) (a b : FieldKind) (bytes : List ℕ) → a ≡ b
    → IfOk result (λ found. found ≡ is_some (value_from b bytes))
    → IfOk result (λ found. found ≡ is_some (value_from a bytes))
of_kind result a b bytes e h =
    let P : FieldKind → Type 0 = λ k. IfOk result (λ found. found ≡ is_some (value_from k bytes)) in
    subst P (sym e) h
