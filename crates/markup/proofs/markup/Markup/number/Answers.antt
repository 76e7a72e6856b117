use Rattle.markup.proofs.Opening.{kept, of_number}
use Rattle.markup.proofs.markup.Markup.number.Goals as goal

pub invariant_of-self : goal.invariant_of-self
invariant_of-self c h =
    kept c.push_decimal.result c.is_err-self-inside.result (c.self.invariant c.if-not-self.true)
    (of_number c.args.number)
    c.push_decimal.ensures c.is_err-self-inside.ensures.value h
