use Rattle.dbc_keep.proofs.Common.{sym, ◌∙◌}
use Rattle.dbc_keep.specs.Staying.{seen}
use Rattle.dbc_keep.proofs.Absent.{name_cited, no_name_cited, none_cited}
use Rattle.dbc_keep.proofs.citing.node_word.Goals as goal

pub returns-then-not-is_name : goal.returns-then-not-is_name
returns-then-not-is_name c =
    sym (no_name_cited c.args.sheet.now (seen c.args.word.now) (sym c.is_name.ensures ∙ c.if-not-is_name.true))

pub returns-then-eq : goal.returns-then-eq
returns-then-eq c =
    sym (none_cited c.args.sheet.now (seen c.args.word.now) (sym c.is_name.ensures ∙ c.if-not-is_name.false)
    (sym c.eq.ensures ∙ c.if-eq.true))

pub returns : goal.returns
returns c =
    c.node.ensures
    ∙ sym (name_cited c.args.sheet.now (seen c.args.word.now) (sym c.is_name.ensures ∙ c.if-not-is_name.false)
    (sym c.eq.ensures ∙ c.if-eq.false))
