use Rattle.store_net.proofs.Common.{◌∙◌, arith, state, HasCleanDisk}
use Rattle.store_net.proofs.Bare.{whole_live}
use Rattle.store_net.proofs.live_list.live_messages.Goals as goal

pub returns-clause-found : goal.returns-clause-found
returns-clause-found g c clean office live h =
    let s1 = state g.S.Store c.messages_with.new.tx.conn.now in
    let clean1 : HasCleanDisk s1 = omega (arith, c.refuse_orphans.ensures.frame.survives.clean, clean) in
    c.in_ok-messages.ensures.found clean1 office live h ∙ whole_live live
