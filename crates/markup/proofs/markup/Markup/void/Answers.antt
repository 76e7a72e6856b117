use Rattle.markup.proofs.Opening.{kept, of_void}
use Rattle.markup.proofs.markup.Markup.void.Goals as goal

pub invariant_of-self : goal.invariant_of-self
invariant_of-self c h =
    kept c.push_void.result c.is_err-self-inside.result (c.self.invariant c.if-not-self.true)
    (of_void c.args.tag c.args.attributes.now)
    c.push_void.ensures c.is_err-self-inside.ensures.value h
