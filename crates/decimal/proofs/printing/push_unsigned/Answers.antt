use Rattle.decimal.proofs.Common.{◌∷◌, [], ◌≡◌, ◌∙◌, ◌++◌, ◌<ℤ◌, ◌≤ℤ◌, ◌⊎◌, ℕ, pos, negsuc, List, ap, sym, refl, arith}
use Rattle.decimal.proofs.Common.{unsigned_abs, to_z, of_z, inl, inr, w16, decimal, signed_decimal, ints}
use Rattle.std.proofs.lemmas.List.{append_assoc}
use Rattle.decimal.specs.Printing.{with_point}
use Rattle.decimal.proofs.Texts.{text_far, text_with_point, text_zeros}
use Rattle.decimal.proofs.printing.push_unsigned.Goals as goal
use Rattle.decimal.proofs.printing.push_unsigned.Goals.{in_default-via-then-exponent-ltminus20}
use Rattle.decimal.proofs.printing.push_unsigned.Goals.{in_default-via-else-exponent-ltminus20+else-exponent-lt0+else-exponent-lt21}

pub returns-in-minus20-to-minus1 : goal.returns-in-minus20-to-minus1
returns-in-minus20-to-minus1 c =
    let low : negsuc 19 ≤ℤ c.args.exponent = omega (arith, ints) in
    let high : c.args.exponent <ℤ pos 0 = omega (arith, ints) in
    let same : to_z w16 (of_z w16 c.args.exponent) ≡ c.args.exponent = omega (arith, ints) in
    let digits = c.from.ensures ∙ c.unsigned_abs.ensures.value ∙ ap unsigned_abs same in
    c.push_with_point.ensures ∙ ap (λ (k : ℕ). c.args.text.now.bytes ++ with_point k c.args.magnitude) digits
    ∙ ap (λ (bs : List ℕ). c.args.text.now.bytes ++ bs)
    (sym (text_with_point c.args.magnitude c.args.exponent low high))

pub returns-in-0-to-20 : goal.returns-in-0-to-20
returns-in-0-to-20 c =
    let low : pos 0 ≤ℤ c.args.exponent = omega (arith, ints) in
    let high : c.args.exponent ≤ℤ pos 20 = omega (arith, ints) in
    let same : to_z w16 (of_z w16 c.args.exponent) ≡ c.args.exponent = omega (arith, ints) in
    rw (
      c.push_zeros.ensures,
      c.push_number.ensures.text,
      same,
      append_assoc,
      text_zeros c.args.magnitude c.args.exponent low high,
    ) refl

pub returns-in_default : goal.returns-in_default
returns-in_default c =
    let far : (c.args.exponent <ℤ negsuc 19) ⊎ (pos 20 <ℤ c.args.exponent) = elim c.in_default.branch [
      | in_default-via-then-exponent-ltminus20 w ↦ inl (omega (arith, ints))
      | in_default-via-else-exponent-ltminus20+else-exponent-lt0+else-exponent-lt21 w ↦ inr (omega (arith, ints))
    ] in
    let same : to_z w16 (of_z w16 c.args.exponent) ≡ c.args.exponent = omega (arith, ints) in
    let letter = c.push.ensures.ascii (omega arith) in
    rw (
      c.push_str.ensures.bytes,
      letter,
      c.push_number-in_default.ensures.text,
      c.format.ensures.text,
      same,
      append_assoc (c.args.text.now.bytes ++ decimal c.args.magnitude) (69 ∷ []) (signed_decimal c.args.exponent),
      append_assoc c.args.text.now.bytes (decimal c.args.magnitude) (69 ∷ signed_decimal c.args.exponent),
      text_far c.args.magnitude c.args.exponent far,
    ) refl
