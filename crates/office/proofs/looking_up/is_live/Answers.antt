use Rattle.office.proofs.Common.{◌∙◌}
use Rattle.office.proofs.Looked.{live_if_found}
use Rattle.office.proofs.looking_up.is_live.Goals as goal

pub returns : goal.returns
returns c = c.is_some.ensures ∙ live_if_found c.args.live.now c.args.ident.now c.find_ident.result c.find_ident.ensures
