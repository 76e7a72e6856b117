use Rattle.std.proofs.Common.{◌≡◌, ◌++◌, ◌∙◌, decimal, codes, refl}
use Rattle.std.specs.Prelude.{string_bytes}
use Rattle.std.proofs.lemmas.Result.{IfOk-weaker}
use Rattle.office_reasons.specs.Bits.{shared_text}
use Rattle.office_reasons.proofs.bits.shared_text.Goals as goal

pub returns : goal.returns
returns c =
    let written = c.as_str-signal.result.now ++ (codes " has bit " ++ (decimal c.args.bit ++ (codes ", which signal "
    ++ (c.as_str-partner.result.now ++ (codes " has in " ++ (c.shown-name.result.now
    ++ (codes "; " ++ c.as_str-hint.result.now))))))) in
    let text : written
    ≡ shared_text c.args.message.now c.args.take.now c.args.start c.args.partner.now c.args.bit =
    rw (
      c.as_str-signal.ensures.value,
      c.in_ok-signal.ensures,
      c.place_at-place.ensures,
      c.as_str-partner.ensures.value,
      c.in_ok-partner.ensures,
      c.as_str-hint.ensures.value,
      c.in_ok-hint.ensures,
      c.shown-name.ensures,
      c.as_bytes.ensures.bytes,
    ) refl in
    IfOk-weaker c.format.result (λ s. string_bytes s ≡ written) _ (λ s wrote. wrote ∙ text) c.format.ensures.ok
