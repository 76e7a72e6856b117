use Rattle.dbc_keep.proofs.Common.{sym, ◌∙◌}
use Rattle.dbc_keep.proofs.Appended.{three}
use Rattle.dbc_keep.proofs.j1939.protocol.Goals as goal

pub returns : goal.returns
returns c =
    rw (sym c.has_attribute.ensures ∙ c.if-has_attribute.false)
    (three c.args.text.now.items _ _ _ c.in_ok-extend_from_slice.ensures.items c.in_ok-extend_from_slice-2.ensures.items
    c.in_ok-extend_from_slice-3.ensures.items)
