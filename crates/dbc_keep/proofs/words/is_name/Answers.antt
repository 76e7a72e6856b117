use Rattle.dbc_keep.proofs.Absent.{other_kind}
use Rattle.dbc_keep.proofs.words.is_name.Goals as goal

pub returns-in_default : goal.returns-in_default
returns-in_default c = other_kind c.args.word.now.kind c.in_default.not-Name
