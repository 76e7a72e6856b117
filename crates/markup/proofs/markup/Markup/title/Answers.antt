use Rattle.markup.proofs.Opening.{kept, of_title}
use Rattle.markup.proofs.markup.Markup.title.Goals as goal

pub invariant_of-self : goal.invariant_of-self
invariant_of-self c h =
    kept c.push_title.result c.is_err-self-inside.result (c.self.invariant c.if-not-self.true)
    (of_title c.args.pieces.now)
    c.push_title.ensures c.is_err-self-inside.ensures.value h
