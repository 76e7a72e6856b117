use Rattle.std.proofs.Common.{◌≡◌, ◌++◌, drop, map}
use Rattle.office_page.specs.Names.{sender_of, text_of}
use Rattle.office_page.proofs.names.senders_of.Given as goal

abbrev pub invariant-loop-message : goal.invariant-loop-message
invariant-loop-message l =
    map text_of l.names.items ++ map sender_of (drop l.message-index l.messages) ≡ map sender_of l.messages
