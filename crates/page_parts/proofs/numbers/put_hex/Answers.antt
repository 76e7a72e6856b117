use Rattle.std.proofs.Common.{true, ap, ◌∙◌}
use Rattle.std.specs.Fmt.{digits}
use Rattle.markup.specs.Html.{escaped}
use Rattle.markup.specs.Writing.{adding}
use Rattle.page_parts.specs.Numbers.{hex}
use Rattle.page_parts.proofs.Hexadecimal.{zeros_before}
use Rattle.page_parts.proofs.numbers.put_hex.Goals as goal

pub returns-in-Three : goal.returns-in-Three
unfolding hex
returns-in-Three c =
    let h = rw (c.laid_out.ensures, c.in_radix.ensures) at c.display.ensures in
    rw c.in-Three.is (λ kept. h kept
    ∙ ap (λ v. adding (escaped v) c.args.page.now) (zeros_before 3 (digits 16 true c.args.number)))

pub returns-in-Four : goal.returns-in-Four
unfolding hex
returns-in-Four c =
    let h = rw (c.laid_out-in-Four.ensures, c.in_radix-in-Four.ensures) at c.display-in-Four.ensures in
    rw c.in-Four.is (λ kept. h kept
    ∙ ap (λ v. adding (escaped v) c.args.page.now) (zeros_before 4 (digits 16 true c.args.number)))

pub returns-in-Eight : goal.returns-in-Eight
unfolding hex
returns-in-Eight c =
    let h = rw (c.laid_out-in-Eight.ensures, c.in_radix-in-Eight.ensures) at c.display-in-Eight.ensures in
    rw c.in-Eight.is (λ kept. h kept
    ∙ ap (λ v. adding (escaped v) c.args.page.now) (zeros_before 8 (digits 16 true c.args.number)))
