use Rattle.std.proofs.Common.{◌∙◌, ap}
use Rattle.std.specs.Prelude.{is_some}
use Rattle.page_parts.proofs.Found.{has_index}
use Rattle.page_parts.proofs.names.Names.has.Goals as goal

pub returns : goal.returns
returns c = c.is_some.ensures ∙ ap is_some c.index_of.ensures ∙ has_index c.args.self.now c.args.name.now
