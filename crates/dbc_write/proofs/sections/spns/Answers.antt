use Rattle.dbc_write.proofs.Common.{◌∙◌, sym, line_text}
use Rattle.dbc_write.proofs.Adds.{also, none}
use Rattle.dbc_write.proofs.Spns.{defined_first, none_defined}
use Rattle.dbc_write.proofs.sections.spns.Goals as goal

pub returns-then-not-has_spn : goal.returns-then-not-has_spn
returns-then-not-has_spn c = rw (none_defined c.args.sheet.now (sym c.has_spn.ensures ∙ c.if-not-has_spn.true))
    (none line_text c.args.text.now.items)

pub returns : goal.returns
returns c =
    rw (defined_first c.args.sheet.now (sym c.has_spn.ensures ∙ c.if-not-has_spn.false))
    (also (also c.in_ok-definition.ensures c.in_ok-default_value.ensures) c.in_ok-lines.ensures)
