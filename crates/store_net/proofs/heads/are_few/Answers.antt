use Rattle.store_net.proofs.Common.{◌≡◌, ◌∙◌, filter, length, sym, subst, arith, min, false≢true, Database, state}
use Rattle.store_net.proofs.Common.{HasCleanDisk, IsOffice, has_rowid_below, msg_entries}
use Rattle.store_net.proofs.FewRows.{few_msgs, none_there}
use Rattle.store_net.proofs.heads.are_few.Goals as goal
use Rattle.store_net.proofs.heads.are_few.Goals.{then-is_empty, else-is_empty}

pub returns-clause-found : goal.returns-clause-found
returns-clause-found g c clean office few =
    let s0 = state g.S.Store c.args.tx.now.conn.now in
    let s1 = state g.S.Store c.select_msg_above.new.tx.conn.now in
    let clean1 : HasCleanDisk s1 = omega (arith, c.select_msg_below.ensures.frame.survives.clean, clean) in
    let now1 : s1.now ≡ s0.now = (c.in_ok-above.ensures.frame.same clean1 office).0.now_is in
    let office1 : IsOffice s1.now = subst IsOffice (sym now1) office in
    let above = c.in_ok-above.ensures.found clean1 office in
    let below = subst (λ (d : Database). length c.in_ok-below.below.items
    ≡ min 1 (length (filter (has_rowid_below 1) (msg_entries d.trees)))) now1
    (c.in_ok-below.ensures.found clean office1) in
    elim c.if-is_empty.branch [
      | then-is_empty w ↦
          few_msgs s0 office c.args.most
          (none_there _ _ _ _ c.is_empty.ensures w.if-is_empty.true c.in_ok-above.above.ok.0 above)
          (none_there _ _ _ _ w.is_empty-then-is_empty.ensures (sym w.result-is ∙ few) c.in_ok-below.below.ok.0 below)
      | else-is_empty w ↦ absurd (false≢true (sym w.if-is_empty.false ∙ sym w.result-is ∙ few))
    ]
