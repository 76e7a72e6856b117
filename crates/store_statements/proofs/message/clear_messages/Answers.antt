use Rattle.store_statements.proofs.MessageTexts.{clears}
use Rattle.store_statements.proofs.Texts.{edits}
use Rattle.store_statements.proofs.message.clear_messages.Goals as goal

pub returns-clause-removed : goal.returns-clause-removed
returns-clause-removed g c =
    (edits g.S.Store c.args.tx.now c.execute.new.self c.execute.result _ _ _ _ clears c.execute.ensures.ended
    c.execute.ensures.runs).0

pub returns-clause-rows : goal.returns-clause-rows
returns-clause-rows g c =
    (edits g.S.Store c.args.tx.now c.execute.new.self c.execute.result _ _ _ _ clears c.execute.ensures.ended
    c.execute.ensures.runs).1
