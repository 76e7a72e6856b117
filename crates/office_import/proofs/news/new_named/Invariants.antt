use Rattle.office_import.proofs.Common.{◌≡◌, take}
use Rattle.office_rules.specs.Importing.{new_named}
use Rattle.office_import.proofs.news.new_named.Given as goal

abbrev pub invariant-loop-thing : goal.invariant-loop-thing
invariant-loop-thing g l = l.news ≡ new_named g.T.Named.name_of l.things (take l.thing-index l.file)
