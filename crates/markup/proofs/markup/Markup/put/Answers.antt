use Rattle.markup.proofs.Opening.{if_ok, kept}
use Rattle.markup.proofs.markup.Markup.put.Goals as goal

pub invariant_of-self : goal.invariant_of-self
invariant_of-self c h =
    kept c.extend_from_slice.result c.is_err-self-inside.result (c.self.invariant c.if-not-self.true)
    c.in-Ok.ensures.closed
    (if_ok c.extend_from_slice.result _ _ (rw c.deref.ensures.value at c.extend_from_slice.ensures.items))
    c.is_err-self-inside.ensures.value h
