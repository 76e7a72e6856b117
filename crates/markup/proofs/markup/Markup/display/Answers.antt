use Rattle.std.proofs.Common.{ap, refl, ◌∙◌}
use Rattle.std.proofs.lemmas.Option.{IfSome_then}
use Rattle.markup.specs.Html.{escaped}
use Rattle.markup.specs.Writing.{adding}
use Rattle.markup.proofs.Changes.{lost_words}
use Rattle.markup.proofs.markup.Markup.display.Goals as goal

pub returns-in-Ok : goal.returns-in-Ok
returns-in-Ok g c =
    IfSome_then (g.D.Display.output c.args.value) c.in-Ok.ensures.ok (λ bytes is kept. c.text.ensures kept
    ∙ ap (λ v. adding (escaped v) c.args.self.now) (c.as_bytes.ensures.value ∙ is))

pub returns-in-Err : goal.returns-in-Err
returns-in-Err g c =
    lost_words (g.D.Display.output c.args.value) (λ bytes. adding (escaped bytes) c.args.self.now) _ refl
