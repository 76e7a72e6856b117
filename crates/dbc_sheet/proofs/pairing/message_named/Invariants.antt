use Rattle.dbc_sheet.proofs.Common.{◌≡◌}
use Rattle.std.proofs.Common.{drop}
use Rattle.dbc_words.specs.Named.{thing_named}
use Rattle.dbc_sheet.specs.Messages.{message_name}
use Rattle.dbc_sheet.proofs.pairing.message_named.Given as goal

-- the one that is looked for is among those that are left
abbrev pub invariant-loop-found : goal.invariant-loop-found
invariant-loop-found l = thing_named message_name l.sheet.messages l.name
    ≡ thing_named message_name (drop l.found-index l.found-items) l.name
