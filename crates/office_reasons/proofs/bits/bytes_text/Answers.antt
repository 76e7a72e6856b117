use Rattle.std.proofs.Common.{◌≡◌, ◌++◌, ◌*◌, ◌-◌, ◌∙◌, decimal, codes}
use Rattle.std.specs.Prelude.{string_bytes}
use Rattle.std.proofs.lemmas.Result.{IfOk-weaker}
use Rattle.office_reasons.specs.Bits.{bytes_text}
use Rattle.office_reasons.proofs.Texts.{many_bytes}
use Rattle.office_reasons.proofs.bits.bytes_text.Goals as goal

pub returns-else-bytes-eq1 : goal.returns-else-bytes-eq1
returns-else-bytes-eq1 c =
    let bytes = c.args.bytes in
    let written = decimal bytes ++ (codes " bytes, bits 0 to " ++ decimal (8 * c.from.result - 1)) in
    let text : written ≡ bytes_text bytes = rw c.from.ensures (many_bytes bytes c.if-bytes-eq0.false c.if-bytes-eq1.false) in
    IfOk-weaker c.format-else-bytes-eq1.result (λ s. string_bytes s ≡ written) _ (λ s wrote. wrote ∙ text)
    c.format-else-bytes-eq1.ensures.ok
