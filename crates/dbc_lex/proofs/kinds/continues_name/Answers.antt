use Rattle.std.proofs.Common.{refl, ◌∙◌}
use Rattle.dbc_lex.proofs.KindTables.{names_are}
use Rattle.dbc_lex.proofs.kinds.continues_name.Goals as goal

pub returns : goal.returns
returns c = c.flag.ensures ∙ names_are _ c.args.byte refl
