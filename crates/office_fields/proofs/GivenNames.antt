-- A test of the names of given values.
use Rattle.std.proofs.Common.{◌≡◌, List, sym}
use Rattle.std.specs.List.{list_all}
use Rattle.std.proofs.lemmas.List.Folds.{list_all-map}
use Rattle.office_fields.specs.declared.field.Field.{Field}
use Rattle.office_fields.specs.declared.given.GivenValue.{GivenValue}
use Rattle.office_fields.specs.Given.{are_known, is_name_of, named_value, named_values}

pub known_views : (fields : List Field) (values : List GivenValue) → list_all (λ v. is_name_of fields v.name.now) values
    ≡ are_known fields (named_values values)
known_views fields values = sym (list_all-map (λ v. is_name_of fields v.name) named_value values)
