use Rattle.dbc_sheet.proofs.MessageRules.{same_messages}
use Rattle.dbc_sheet.proofs.messages.MessagesCopying.duplicate.Goals as goal

pub invariant_of-result : goal.invariant_of-result
invariant_of-result c =
    same_messages c.self.inside.messages c.in_ok-duplicate.field-0 c.self.inside.names c.in_ok-duplicate-2.field-0
    c.self.invariant
    c.in_ok-duplicate.ensures c.in_ok-duplicate-2.ensures
