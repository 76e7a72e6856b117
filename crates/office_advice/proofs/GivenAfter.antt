-- Given values, one after the other.
use Rattle.std.proofs.Common.{◌≡◌, ℕ, ◌+◌, ◌<◌, List, ◌∷◌, Option, Some, length, take, drop, get_or, sym, ap, ◌∙◌}
use Rattle.std.proofs.lemmas.List.{drop_more, take-map}
use Rattle.std.specs.Option.{option_map_or}
use Rattle.office_fields.specs.Given.{NamedValue, named_value, named_values}
use Rattle.office_fields.specs.declared.given.GivenValue.{GivenValue}
use Rattle.office_advice.specs.Cause.{first_field, value_cause, value_wrong, wrong_at}
use Rattle.office_advice.specs.declared.cause.Cause.{Cause}
use Rattle.office_advice.specs.declared.cause.LineCommand.{LineCommand}

-- a value is looked at, after those before it
pub value_next : (c : LineCommand) (values : List GivenValue) (i : ℕ) (v : GivenValue) (found : Option Cause)
    → i < length values → v ≡ get_or values i v
    → found ≡ value_cause c (named_values (take i values)) (named_value v)
    → value_wrong c (named_values values) i (named_values (drop i values))
    ≡ option_map_or (λ cause. Some (wrong_at (i + first_field c) cause)) found
    (value_wrong c (named_values values) (i + 1) (named_values (drop (i + 1) values)))
value_next c values i v found lt item is =
    let e : drop i values ≡ v ∷ drop (i + 1) values = drop_more values i v lt
    ∙ ap (λ (u : GivenValue). u ∷ drop (i + 1) values) (sym item) in
    let same : take i (named_values values) ≡ named_values (take i values) = take-map named_value i values in
    ap (λ (vs : List GivenValue). value_wrong c (named_values values) i (named_values vs)) e
    ∙ ap (λ (earlier : List NamedValue). option_map_or (λ cause. Some (wrong_at (i + first_field c) cause))
    (value_cause c earlier (named_value v))
    (value_wrong c (named_values values) (i + 1) (named_values (drop (i + 1) values)))) same
    ∙ ap (λ (o : Option Cause). option_map_or (λ cause. Some (wrong_at (i + first_field c) cause)) o
    (value_wrong c (named_values values) (i + 1) (named_values (drop (i + 1) values)))) (sym is)
