use Rattle.office_fields.specs.declared.kind.CommandKind.TheVariants.{Act}
use Rattle.office_fields.proofs.CommandWords.{named_back}
use Rattle.office_fields.proofs.kind.CommandKind.word.Goals as goal

pub returns-in-Act-clause-back : goal.returns-in-Act-clause-back
returns-in-Act-clause-back c = rw (c.in-Act.is, c.word.ensures) (named_back (Act c.in-Act.kind))
