use Rattle.markup.proofs.Opening.{kept, of_text}
use Rattle.markup.proofs.markup.Markup.text.Goals as goal

pub invariant_of-self : goal.invariant_of-self
invariant_of-self c h =
    kept c.push_text.result c.is_err-self-inside.result (c.self.invariant c.if-not-self.true) (of_text c.args.bytes.now)
    c.push_text.ensures c.is_err-self-inside.ensures.value h
