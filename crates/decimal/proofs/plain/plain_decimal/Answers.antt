use Rattle.decimal.proofs.Common.{◌≡◌, ◌∙◌, sym, subst, arith, pos, neg_ℤ, ◌-ℤ◌, to_z, of_z, Ok, w16, w128, ints}
use Rattle.decimal.specs.Number.{Number}
use Rattle.decimal.specs.Spelling.{signed}
use Rattle.decimal.specs.Reading.{ReadsNumber}
use Rattle.decimal.proofs.Readings.{reads_nothing, reads_stripped}
use Rattle.decimal.proofs.plain.plain_decimal.Goals as goal

pub returns-then-plain-eq0 : goal.returns-then-plain-eq0
returns-then-plain-eq0 c =
    let plain = c.in_ok-plain.plain in
    reads_nothing c.args.negative c.args.bytes.now plain.number (neg_ℤ (pos plain.fraction_digits))
    (c.in_ok-plain.ensures.value c.args.negative) c.if-plain-eq0.true

pub new-requires : goal.new-requires
new-requires c =
    let plain = c.in_ok-plain.plain in
    let v = c.in_ok-stripped.stripped.number in
    let z = c.in_ok-stripped.stripped.zeros in
    let k = plain.fraction_digits in
    let few = c.in_ok-stripped.ensures.few in
    let short = c.in_ok-plain.ensures.few in
    let reads = reads_stripped c.args.negative c.args.bytes.now plain.number v z (neg_ℤ (pos k)) (pos z -ℤ pos k)
    (c.in_ok-plain.ensures.value c.args.negative) c.in_ok-stripped.ensures.value (omega (arith, ints))
    c.in_ok-stripped.ensures.last (omega arith)
    (record { low = omega (arith, ints, few, short); high = omega (arith, ints, few, short) }) in
    let mantissa : to_z w128 (of_z w128 c.signed.result) ≡ signed c.args.negative v = omega (arith, ints)
    ∙ c.signed.ensures in
    let exponent : to_z w16 (of_z w16 (to_z w16 (of_z w16 c.from.result) -ℤ to_z w16 k)) ≡ pos z -ℤ pos k =
    omega (arith, ints, few, short, c.from.ensures) in
    rw (mantissa, exponent) reads.1

pub returns : goal.returns
returns c =
    let plain = c.in_ok-plain.plain in
    let v = c.in_ok-stripped.stripped.number in
    let z = c.in_ok-stripped.stripped.zeros in
    let k = plain.fraction_digits in
    let few = c.in_ok-stripped.ensures.few in
    let short = c.in_ok-plain.ensures.few in
    let reads = reads_stripped c.args.negative c.args.bytes.now plain.number v z (neg_ℤ (pos k)) (pos z -ℤ pos k)
    (c.in_ok-plain.ensures.value c.args.negative) c.in_ok-stripped.ensures.value (omega (arith, ints))
    c.in_ok-stripped.ensures.last (omega arith)
    (record { low = omega (arith, ints, few, short); high = omega (arith, ints, few, short) }) in
    let mantissa : to_z w128 (of_z w128 c.signed.result) ≡ signed c.args.negative v = omega (arith, ints)
    ∙ c.signed.ensures in
    let exponent : to_z w16 (of_z w16 (to_z w16 (of_z w16 c.from.result) -ℤ to_z w16 k)) ≡ pos z -ℤ pos k =
    omega (arith, ints, few, short, c.from.ensures) in
    let same : c.new.result ≡ record { mantissa = signed c.args.negative v; exponent = pos z -ℤ pos k } = c.new.ensures
    ∙ (λ t. record { mantissa = mantissa t; exponent = exponent t }) in
    subst (λ (n : Number). ReadsNumber c.args.negative c.args.bytes.now (Ok n)) (sym same) reads
