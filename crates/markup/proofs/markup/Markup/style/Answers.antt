use Rattle.markup.proofs.Opening.{kept, of_style}
use Rattle.markup.proofs.markup.Markup.style.Goals as goal

pub invariant_of-self : goal.invariant_of-self
invariant_of-self c h =
    kept c.push_style.result c.is_err-self-inside.result (c.self.invariant c.if-not-self.true)
    (of_style (λ part. part.now) c.args.parts.now)
    c.push_style.ensures c.is_err-self-inside.ensures.value h
