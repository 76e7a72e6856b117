-- The numbers of the signal value types (Vector's DBC File Format Documentation, signal value types).
use Rattle.std.specs.Prelude.{ℕ, ◌==◌, if◌then◌else◌, Option, Some, None}
use Rattle.dbc_words.specs.declared.value_type.ValueType.{ValueType}
use Rattle.dbc_words.specs.declared.value_type.ValueType.TheVariants.{Integer, Float, Double}

abbrev pub value_type_number : ValueType → ℕ
value_type_number Integer = 0
value_type_number Float = 1
value_type_number Double = 2

abbrev pub value_type_of : ℕ → Option ValueType
value_type_of n = if n == 0 then Some Integer
    else (if n == 1 then Some Float else (if n == 2 then Some Double else None))
