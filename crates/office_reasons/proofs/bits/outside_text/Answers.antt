use Rattle.std.proofs.Common.{◌≡◌, ◌++◌, ◌∙◌, decimal, codes, refl}
use Rattle.std.specs.Prelude.{string_bytes}
use Rattle.std.proofs.lemmas.Result.{IfOk-weaker}
use Rattle.office_reasons.specs.Bits.{outside_text}
use Rattle.office_reasons.proofs.bits.outside_text.Goals as goal

pub returns : goal.returns
returns c =
    let written = c.as_str-signal.result.now ++ (codes " has bit " ++ (decimal c.args.bit ++ (codes ", and "
    ++ (c.shown-name.result.now ++ (codes " has " ++ (c.as_str-payload.result.now
    ++ (codes "; " ++ c.as_str-hint.result.now))))))) in
    let text : written ≡ outside_text c.args.message.now c.args.take.now c.args.start c.args.bit =
    rw (
      c.as_str-signal.ensures.value,
      c.in_ok-signal.ensures,
      c.place_at-place.ensures,
      c.as_str-payload.ensures.value,
      c.in_ok-payload.ensures,
      c.bytes.ensures.value,
      c.as_str-hint.ensures.value,
      c.in_ok-hint.ensures,
      c.shown-name.ensures,
      c.as_bytes.ensures.bytes,
    ) refl in
    IfOk-weaker c.format.result (λ s. string_bytes s ≡ written) _ (λ s wrote. wrote ∙ text) c.format.ensures.ok
