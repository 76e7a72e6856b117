use Rattle.markup.proofs.Opening.{begun}
use Rattle.markup.proofs.markup.Markup.open.Goals as goal

pub invariant_of-self : goal.invariant_of-self
invariant_of-self c h =
    begun c.begin.result c.self.inside.open.items c.begin.new.open.items c.is_err-self-inside.result c.args.tag
    c.args.attributes.now (c.self.invariant c.if-not-self.true) c.begin.ensures.text c.begin.ensures.open
    c.is_err-self-inside.ensures.value h
