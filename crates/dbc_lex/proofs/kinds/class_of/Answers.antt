use Rattle.std.proofs.Common.{refl, ◌∙◌}
use Rattle.dbc_lex.proofs.KindTables.{classes_are}
use Rattle.dbc_lex.proofs.kinds.class_of.Goals as goal

pub returns : goal.returns
returns c = c.entry.ensures ∙ classes_are _ c.args.byte refl
