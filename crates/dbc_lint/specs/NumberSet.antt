-- A set of decimals, as it is kept.
use Rattle.std.specs.Prelude.{◌≡◌, ℤ, Bool, List}
use Rattle.std.specs.Ordering.{int_cmp, ordering_then}
use Rattle.std.specs.declared.cmp.Ordering.{Ordering}
use Rattle.std.specs.BTreeSet.{contains}
use Rattle.decimal.specs.Number.{Number}
use Rattle.dbc_sheet.specs.declared.value_texts.ValueText.{ValueText}
use Rattle.dbc_lint.specs.OfSignal.{has_value}
use Rattle.dbc_lint.specs.declared.number_set.NumberSet.{NumberSet}

abbrev pub pair_cmp : ℤ × ℤ → ℤ × ℤ → Ordering
pair_cmp a b = ordering_then (int_cmp a.0 b.0) (int_cmp a.1 b.1)

-- the set has the number
abbrev pub holds_number : NumberSet → Number → Bool
holds_number set n = contains pair_cmp set.numbers (n.mantissa, n.exponent)

-- the set has the values of the texts
abbrev pub HasValuesOf : List ValueText → NumberSet → Type 0
HasValuesOf texts set = (n : Number) → holds_number set n ≡ has_value texts n
