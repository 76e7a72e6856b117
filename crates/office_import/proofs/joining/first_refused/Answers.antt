use Rattle.office_import.proofs.Common.{message_import_tests, sym, ◌∙◌}
use Rattle.office_import.proofs.Each.{of_found, of_more}
use Rattle.office_import.proofs.joining.first_refused.Goals as goal

pub returns-then-is_some : goal.returns-then-is_some
returns-then-is_some c =
    of_found (message_import_tests c.args.team.now c.args.index.now) c.args.messages.now c.loop-message.message-index
    c.message-item.result c.message_refusal-refusal.result
    c.loop-message-test.true c.message-item.is c.loop-message.invariant c.message_refusal-refusal.ensures
    (sym c.is_some.ensures ∙ c.if-is_some.true)

pub loop-message-preserved : goal.loop-message-preserved
loop-message-preserved c =
    of_more (message_import_tests c.args.team.now c.args.index.now) c.args.messages.now c.loop-message.message-index
    c.message-item.result c.message_refusal-refusal.result
    c.loop-message-test.true c.message-item.is c.loop-message.invariant c.message_refusal-refusal.ensures
    (sym c.is_some.ensures ∙ c.if-is_some.false)
