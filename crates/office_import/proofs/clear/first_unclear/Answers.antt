use Rattle.office_import.proofs.Common.{clear_tests, sym, ◌∙◌}
use Rattle.office_import.proofs.Each.{of_found}
use Rattle.office_import.proofs.clear.first_unclear.Goals as goal

pub returns-then-is_some : goal.returns-then-is_some
returns-then-is_some c =
    of_found clear_tests c.args.messages.now c.loop-message.message-index c.message-item.result c.in_ok-refusal.refusal
    c.loop-message-test.true c.message-item.is c.loop-message.invariant c.in_ok-refusal.ensures
    (sym c.is_some.ensures ∙ c.if-is_some.true)
