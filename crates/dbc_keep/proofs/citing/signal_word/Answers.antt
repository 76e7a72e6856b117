use Rattle.dbc_keep.proofs.Common.{sym, ◌∙◌}
use Rattle.dbc_keep.specs.Staying.{seen}
use Rattle.dbc_keep.proofs.Absent.{no_signal_cited, signal_named}
use Rattle.dbc_keep.proofs.citing.signal_word.Goals as goal

pub returns-then-not-is_name : goal.returns-then-not-is_name
returns-then-not-is_name c =
    sym (no_signal_cited c.args.sheet.now (seen c.args.word.now) c.args.number.now
    (sym c.is_name.ensures ∙ c.if-not-is_name.true))

pub returns : goal.returns
returns c =
    c.signal.ensures
    ∙ sym (signal_named c.args.sheet.now (seen c.args.word.now) c.args.number.now
    (sym c.is_name.ensures ∙ c.if-not-is_name.false))
