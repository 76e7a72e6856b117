use Rattle.markup.proofs.Opening.{if_ok, kept, of_doctype}
use Rattle.markup.proofs.markup.Markup.doctype.Goals as goal

pub invariant_of-self : goal.invariant_of-self
invariant_of-self c h =
    kept c.extend_from_slice.result c.is_err-self-inside.result (c.self.invariant c.if-not-self.true) (of_doctype)
    (if_ok c.extend_from_slice.result _ _ c.extend_from_slice.ensures.items) c.is_err-self-inside.ensures.value h
