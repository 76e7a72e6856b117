use Rattle.std.proofs.Common.{◌≡◌, ◌++◌, ◌∙◌, decimal, codes, refl}
use Rattle.std.specs.Prelude.{string_bytes}
use Rattle.std.proofs.lemmas.Result.{IfOk-weaker}
use Rattle.office_reasons.specs.Numbers.{beyond_form_text}
use Rattle.office_reasons.proofs.numbers.beyond_form.Goals as goal

pub returns : goal.returns
returns c =
    let number = c.args.number in
    let written = codes "want=" ++ (decimal number ++ (codes " is no " ++ (c.word-word.result.now
    ++ (codes " identifier: these are 0 to " ++ decimal c.greatest-greatest.result)))) in
    let text : written ≡ beyond_form_text c.args.form number =
    rw (c.word-word.ensures, c.greatest-greatest.ensures) refl in
    IfOk-weaker c.format.result (λ s. string_bytes s ≡ written) _ (λ s wrote. wrote ∙ text) c.format.ensures.ok
