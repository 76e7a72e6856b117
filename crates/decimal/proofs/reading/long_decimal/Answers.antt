use Rattle.decimal.proofs.Common.{◌≡◌, ◌++◌, ◌+◌, ℕ, List, ◌<◌, ◌-◌, ◌^◌, ◌∙◌, ap, sym, subst, arith, length}
use Rattle.decimal.proofs.Common.{suffix_len, w16, w128, to_z, of_z, Ok, ints}
use Rattle.decimal.specs.Reading.{ReadsNumber}
use Rattle.decimal.specs.Number.{Number, IsInRange}
use Rattle.decimal.specs.Spelling.{digits_of, bytes_of, signed}
use Rattle.decimal.specs.Cutting.{spelling, is_zero}
use Rattle.decimal.proofs.DigitLists.{ten_le}
use Rattle.decimal.proofs.Readings.{AreEnds, between, ends_ordered, reads_zero, zero_decimal, reads_long, reads_far}
use Rattle.decimal.proofs.Readings.{token_digits, decimal_between, reads_decimal, stripped_exponent_at}
use Rattle.decimal.proofs.reading.long_decimal.Goals as goal

pub returns-then-end-eq0 : goal.returns-then-end-eq0
returns-then-end-eq0 c =
    let s = spelling c.args.parts in
    let is : c.new-digits.result ≡ digits_of (spelling c.args.parts) = c.new-digits.ensures
    ∙ ap (λ (ds : List ℕ). c.args.parts.whole.now ++ ds) c.after_point-fraction.ensures in
    let e = subst (λ (ds : List ℕ). c.len_without_trailing_zeros-end.result + suffix_len is_zero ds ≡ length ds) is
    c.len_without_trailing_zeros-end.ensures in (
      reads_zero c.args.negative (bytes_of s) s c.requires.token c.len_without_trailing_zeros-end.result
          c.if-end-eq0.true e,
      zero_decimal,
    )

pub overflow_sub-end : goal.overflow_sub-end
overflow_sub-end c =
    let lt = ends_ordered c.new-digits.result c.leading_zeros-start.result c.len_without_trailing_zeros-end.result
    (record {
      front = c.leading_zeros-start.ensures;
      back = c.len_without_trailing_zeros-end.ensures;
      some =
          c.if-end-eq0.false;
    }) in
    omega (arith, lt)

pub value-magnitude-requires-clause-ordered : goal.value-magnitude-requires-clause-ordered
value-magnitude-requires-clause-ordered c =
    let lt = ends_ordered c.new-digits.result c.leading_zeros-start.result c.len_without_trailing_zeros-end.result
    (record {
      front = c.leading_zeros-start.ensures;
      back = c.len_without_trailing_zeros-end.ensures;
      some =
          c.if-end-eq0.false;
    }) in
    omega (arith, lt)

pub returns-then-end-start-gt-MOST_DIGITS : goal.returns-then-end-start-gt-MOST_DIGITS
returns-then-end-start-gt-MOST_DIGITS c =
    let s = spelling c.args.parts in
    let start = c.leading_zeros-start.result in
    let end = c.len_without_trailing_zeros-end.result in
    let is : c.new-digits.result ≡ digits_of (spelling c.args.parts) = c.new-digits.ensures
    ∙ ap (λ (ds : List ℕ). c.args.parts.whole.now ++ ds) c.after_point-fraction.ensures in
    let ends : AreEnds c.new-digits.result c.leading_zeros-start.result c.len_without_trailing_zeros-end.result =
    record {
      front = c.leading_zeros-start.ensures;
      back = c.len_without_trailing_zeros-end.ensures;
      some =
          c.if-end-eq0.false;
    } in
    reads_long c.args.negative (bytes_of s) s c.requires.token start end (token_digits (bytes_of s) s c.requires.token)
    (subst (λ (ds : List ℕ). AreEnds ds start end) is ends) (omega arith)

pub signed-requires : goal.signed-requires
signed-requires c =
    let bound = c.value-magnitude.ensures.digits in
    let top = ten_le (c.len_without_trailing_zeros-end.result - c.leading_zeros-start.result) 36 (omega arith) in
    omega (arith, bound, top)

pub new-requires : goal.new-requires
new-requires c =
    let s = spelling c.args.parts in
    let start = c.leading_zeros-start.result in
    let end = c.len_without_trailing_zeros-end.result in
    let is : c.new-digits.result ≡ digits_of (spelling c.args.parts) = c.new-digits.ensures
    ∙ ap (λ (ds : List ℕ). c.args.parts.whole.now ++ ds) c.after_point-fraction.ensures in
    let here : AreEnds c.new-digits.result c.leading_zeros-start.result c.len_without_trailing_zeros-end.result =
    record {
      front = c.leading_zeros-start.ensures;
      back = c.len_without_trailing_zeros-end.ensures;
      some =
          c.if-end-eq0.false;
    } in
    let ends = subst (λ (ds : List ℕ). AreEnds ds start end) is here in
    let digits = token_digits (bytes_of s) s c.requires.token in
    let value = c.value-magnitude.ensures.value ∙ ap (λ (ds : List ℕ). between ds start end) is in
    let bound = c.value-magnitude.ensures.digits in
    let top = ten_le (c.len_without_trailing_zeros-end.result - c.leading_zeros-start.result) 36 (omega arith) in
    let exponent_is = stripped_exponent_at s (length c.after_point-fraction.result.now) c.len.result end
    (ap length c.after_point-fraction.ensures) (c.len.ensures.value ∙ ap length is) in
    let found = c.in-Some.ensures in
    let range : IsInRange c.in-Some.exponent = subst IsInRange (sym found.1) found.0 in
    let low = range.low in
    let high = range.high in
    let decimal = decimal_between c.args.negative s start end c.value-magnitude.result c.in-Some.exponent digits ends
    value (omega (arith, bound, top)) range in
    let mantissa : to_z w128 (of_z w128 c.signed.result) ≡ signed c.args.negative c.value-magnitude.result =
    omega (arith, ints) ∙ c.signed.ensures in
    let exponent : to_z w16 (of_z w16 c.in-Some.exponent) ≡ c.in-Some.exponent = omega (arith, ints, low, high) in
    rw (mantissa, exponent) decimal

pub returns-in-Some : goal.returns-in-Some
returns-in-Some c =
    let s = spelling c.args.parts in
    let start = c.leading_zeros-start.result in
    let end = c.len_without_trailing_zeros-end.result in
    let is : c.new-digits.result ≡ digits_of (spelling c.args.parts) = c.new-digits.ensures
    ∙ ap (λ (ds : List ℕ). c.args.parts.whole.now ++ ds) c.after_point-fraction.ensures in
    let here : AreEnds c.new-digits.result c.leading_zeros-start.result c.len_without_trailing_zeros-end.result =
    record {
      front = c.leading_zeros-start.ensures;
      back = c.len_without_trailing_zeros-end.ensures;
      some =
          c.if-end-eq0.false;
    } in
    let ends = subst (λ (ds : List ℕ). AreEnds ds start end) is here in
    let digits = token_digits (bytes_of s) s c.requires.token in
    let value = c.value-magnitude.ensures.value ∙ ap (λ (ds : List ℕ). between ds start end) is in
    let bound = c.value-magnitude.ensures.digits in
    let top = ten_le (c.len_without_trailing_zeros-end.result - c.leading_zeros-start.result) 36 (omega arith) in
    let exponent_is = stripped_exponent_at s (length c.after_point-fraction.result.now) c.len.result end
    (ap length c.after_point-fraction.ensures) (c.len.ensures.value ∙ ap length is) in
    let found = c.in-Some.ensures in
    let range : IsInRange c.in-Some.exponent = subst IsInRange (sym found.1) found.0 in
    let low = range.low in
    let high = range.high in
    let mantissa : to_z w128 (of_z w128 c.signed.result) ≡ signed c.args.negative c.value-magnitude.result =
    omega (arith, ints) ∙ c.signed.ensures in
    let exponent : to_z w16 (of_z w16 c.in-Some.exponent) ≡ c.in-Some.exponent = omega (arith, ints, low, high) in
    let same : c.new.result ≡ record {
      mantissa = signed c.args.negative c.value-magnitude.result;
      exponent =
          c.in-Some.exponent;
    } = c.new.ensures ∙ (λ t. record { mantissa = mantissa t; exponent = exponent t }) in
    subst (λ (n : Number). ReadsNumber c.args.negative (bytes_of (spelling c.args.parts)) (Ok n)) (sym same)
    (reads_decimal c.args.negative (bytes_of s) s c.requires.token start end c.value-magnitude.result c.in-Some.exponent
    digits ends value (omega (arith, bound, top)) (found.1 ∙ exponent_is) range)

pub returns-in-None : goal.returns-in-None
returns-in-None c =
    let s = spelling c.args.parts in
    let start = c.leading_zeros-start.result in
    let end = c.len_without_trailing_zeros-end.result in
    let is : c.new-digits.result ≡ digits_of (spelling c.args.parts) = c.new-digits.ensures
    ∙ ap (λ (ds : List ℕ). c.args.parts.whole.now ++ ds) c.after_point-fraction.ensures in
    let here : AreEnds c.new-digits.result c.leading_zeros-start.result c.len_without_trailing_zeros-end.result =
    record {
      front = c.leading_zeros-start.ensures;
      back = c.len_without_trailing_zeros-end.ensures;
      some =
          c.if-end-eq0.false;
    } in
    let ends = subst (λ (ds : List ℕ). AreEnds ds start end) is here in
    let digits = token_digits (bytes_of s) s c.requires.token in
    let value = c.value-magnitude.ensures.value ∙ ap (λ (ds : List ℕ). between ds start end) is in
    let bound = c.value-magnitude.ensures.digits in
    let top = ten_le (c.len_without_trailing_zeros-end.result - c.leading_zeros-start.result) 36 (omega arith) in
    let exponent_is = stripped_exponent_at s (length c.after_point-fraction.result.now) c.len.result end
    (ap length c.after_point-fraction.ensures) (c.len.ensures.value ∙ ap length is) in
    let short = subst (λ (n : ℕ). n < 10 ^ 36) value (omega (arith, bound, top)) in
    reads_far c.args.negative (bytes_of s) s c.requires.token start end digits ends short
    (λ range. c.in-None.ensures (subst IsInRange (sym exponent_is) range))
