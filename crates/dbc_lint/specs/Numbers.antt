-- Numbers of a signal, exactly: as whole numbers of a power of ten that each of them is a multiple of.
use Rattle.std.specs.Prelude.{ℕ, ◌^◌, ◌-◌, nat_lt, Bool, true, false, not, ◌&&◌, ◌||◌, if◌then◌else◌, Option, Some, None}
use Rattle.std.specs.Prelude.{ℤ, pos, neg_ℤ, ◌+ℤ◌, ◌*ℤ◌, int_le, unsigned_abs}
use Rattle.std.specs.Int.{int_min}
use Rattle.std.specs.Ordering.{int_eq}
use Rattle.std.specs.Option.{option_map}
use Rattle.decimal.specs.Number.{Number, mantissa_at}
use Rattle.dbc_words.specs.declared.value_type.ValueType.{ValueType}
use Rattle.dbc_words.specs.declared.value_type.ValueType.TheVariants.{Integer, Float, Double}
use Rattle.dbc_sheet.specs.declared.signal.Signal.{Signal}
use Rattle.dbc_lint.specs.declared.range.Scaled.{Scaled}

-- the whole number, if it has at most 36 digits
abbrev pub short : ℤ → Option ℤ
short z = if nat_lt (unsigned_abs z) (10 ^ 36) then Some z else None

-- how many times ten to the k the number is, if that has at most 36 digits; k is no greater than its exponent
abbrev pub written : Number → ℤ → Option ℤ
written n k = short (mantissa_at n k)

-- whether the first number is greater
abbrev pub is_above : Number → Number → Bool
is_above m n =
    let k = int_min m.exponent n.exponent in
    not (int_le (mantissa_at m k) (mantissa_at n k))

abbrev pub is_zero : Number → Bool
is_zero n = int_eq n.mantissa (pos 0)

-- ---- which raw values the bits hold

-- the least and the greatest raw value of so many bits, signed or not
abbrev pub least_raw : Bool → ℕ → ℤ
least_raw true size = neg_ℤ (pos (2 ^ (size - 1)))
least_raw false size = pos 0

abbrev pub greatest_raw : Bool → ℕ → ℤ
greatest_raw true size = pos (2 ^ (size - 1) - 1)
greatest_raw false size = pos (2 ^ size - 1)

abbrev pub is_float : ValueType → Bool
is_float Integer = false
is_float Float = true
is_float Double = true

-- whether there is such a number, and it is one of these and those between them
abbrev pub is_between : ℤ → ℤ → Option ℤ → Bool
is_between low high None = false
is_between low high (Some z) = int_le low z && int_le z high

-- the bits hold the raw value: a whole number that isn't too great or too small; of a float every number
abbrev pub holds_value : Signal → Number → Bool
holds_value s v =
    is_float s.value_type || (int_le (pos 0) v.exponent
    && is_between (least_raw s.signed s.layout.size) (greatest_raw s.signed s.layout.size) (written v (pos 0)))

-- ---- which physical values they hold

-- the power of ten that factor, offset, minimum and maximum all are multiples of
abbrev pub common_exponent : Signal → ℤ
common_exponent s =
    int_min (int_min s.factor.exponent s.offset.exponent) (int_min s.minimum.exponent s.maximum.exponent)

-- the four numbers, if there are all of them
abbrev pub scaled_of : Option ℤ → Option ℤ → Option ℤ → Option ℤ → Option Scaled
scaled_of (Some factor) (Some offset) (Some minimum) (Some maximum) =
    Some (record { factor = factor; offset = offset; minimum = minimum; maximum = maximum })
scaled_of factor offset minimum maximum = None

-- the four as whole numbers of it, if each has at most 36 digits
abbrev pub scaled_at : Signal → ℤ → Option Scaled
scaled_at s k = scaled_of (written s.factor k) (written s.offset k) (written s.minimum k) (written s.maximum k)

-- the physical value of a raw one, if the product has at most 36 digits
abbrev pub physical : Scaled → ℤ → Option ℤ
physical n raw = option_map (λ product. product +ℤ n.offset) (short (raw *ℤ n.factor))

-- whether a number is one of two or between them, whichever is greater
abbrev pub is_among : ℤ → ℤ → ℤ → Bool
is_among a b z = is_between a b (Some z) || is_between b a (Some z)

abbrev pub are_among : Scaled → ℤ → ℤ → Bool
are_among n a b = is_among a b n.minimum && is_among a b n.maximum

-- whether the minimum or the maximum isn't among the physical values of the least and the greatest raw value, as far as
-- these are known
abbrev pub is_outside : Scaled → Option ℤ → Option ℤ → Bool
is_outside n (Some a) (Some b) = not (are_among n a b)
is_outside n a b = false

abbrev pub is_range_outside : Signal → Option Scaled → Bool
is_range_outside s None = false
is_range_outside s (Some n) =
    is_outside n (physical n (least_raw s.signed s.layout.size)) (physical n (greatest_raw s.signed s.layout.size))

-- `[0|0]` states no range
abbrev pub states_range : Signal → Bool
states_range s = not (is_zero s.minimum && is_zero s.maximum)

-- The bits can't hold the minimum or the maximum. Of a float, and of a signal that states no range, they always can;
-- and where a number has more than 36 digits at the common exponent, it isn't judged.
abbrev pub has_range_outside : Signal → Bool
has_range_outside s =
    not (is_float s.value_type) && (states_range s && is_range_outside s (scaled_at s (common_exponent s)))
