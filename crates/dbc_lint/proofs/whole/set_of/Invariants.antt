use Rattle.dbc_lint.proofs.Common.{take, HasNamesOf}
use Rattle.dbc_lint.specs.Whole.{text_of}
use Rattle.dbc_lint.proofs.whole.set_of.Given as goal

abbrev pub invariant-loop-name : goal.invariant-loop-name
invariant-loop-name l = HasNamesOf text_of (take l.name-index l.names) l.set
