use Rattle.dbc_words.proofs.Common.{◌∙◌}
use Rattle.dbc_words.specs.Named.{holds_name}
use Rattle.dbc_words.proofs.NameSets.{with_name}
use Rattle.dbc_words.proofs.name_set.NameSet.insert.Goals as goal

pub returns-clause-ok : goal.returns-clause-ok
returns-clause-ok c = λ n. c.in_ok-insert.ensures.updates.0 n ∙ with_name c.args.name n (holds_name c.args.self.now n)
