use Rattle.std.proofs.Common.{◌≡◌, ◌++◌, ◌∙◌, codes, refl}
use Rattle.std.specs.Prelude.{string_bytes}
use Rattle.std.proofs.lemmas.Result.{IfOk-weaker}
use Rattle.office_reasons.specs.Signals.{unmultiplexed_text}
use Rattle.office_reasons.proofs.signals.unmultiplexed.Goals as goal

pub returns : goal.returns
returns c =
    let written = c.shown-signal.result.now ++ (codes " is" ++ (c.as_str-mark.result.now ++ (codes ", and "
    ++ (c.shown-message.result.now ++ codes " has no multiplexor: take one with mux=M first")))) in
    let text : written ≡ unmultiplexed_text c.args.message.now c.args.name.now c.args.mux =
    rw (
      c.shown-signal.ensures,
      c.as_bytes.ensures.bytes,
      c.as_str-mark.ensures.value,
      c.in_ok-mark.ensures,
      c.shown-message.ensures,
      c.as_bytes-2.ensures.bytes,
    ) refl in
    IfOk-weaker c.format.result (λ s. string_bytes s ≡ written) _ (λ s wrote. wrote ∙ text) c.format.ensures.ok
