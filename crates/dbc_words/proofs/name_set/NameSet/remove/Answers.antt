use Rattle.dbc_words.proofs.Common.{◌∙◌}
use Rattle.dbc_words.specs.Named.{holds_name}
use Rattle.dbc_words.proofs.NameSets.{without_name}
use Rattle.dbc_words.proofs.name_set.NameSet.remove.Goals as goal

pub returns : goal.returns
returns c = λ n. c.remove.ensures.updates.0 n ∙ without_name c.args.name.now n (holds_name c.args.self.now n)
