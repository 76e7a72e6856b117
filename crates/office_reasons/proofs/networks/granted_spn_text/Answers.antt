use Rattle.std.proofs.Common.{◌≡◌, ◌++◌, ◌∙◌, codes, refl}
use Rattle.std.specs.Prelude.{string_bytes}
use Rattle.std.proofs.lemmas.Result.{IfOk-weaker}
use Rattle.office_reasons.specs.Networks.{granted_spn_text}
use Rattle.office_reasons.proofs.networks.granted_spn_text.Goals as goal

pub returns : goal.returns
returns c =
    let written = codes "spn " ++ (c.as_str-requested.result.now ++ (codes " overlaps spn "
    ++ (c.as_str-numbers.result.now ++ (codes " of team " ++ (c.shown-team.result.now
    ++ (codes " on network " ++ c.shown-net.result.now)))))) in
    let text : written ≡ granted_spn_text c.args.block c.args.granted.now =
    rw (
      c.as_str-requested.ensures.value,
      c.in_ok-requested.ensures,
      c.numbers.ensures,
      c.as_str-numbers.ensures.value,
      c.in_ok-numbers.ensures,
      c.spn_numbers.ensures,
      c.shown-team.ensures,
      c.as_bytes.ensures.bytes,
      c.shown-net.ensures,
      c.as_bytes-2.ensures.bytes,
    ) refl in
    IfOk-weaker c.format.result (λ s. string_bytes s ≡ written) _ (λ s wrote. wrote ∙ text) c.format.ensures.ok
