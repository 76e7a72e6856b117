use Rattle.store_net.proofs.Common.{◌≡◌, sym, subst, ◌∙◌, arith, rules, state, HasCleanDisk, IsOffice, tables_of}
use Rattle.store_net.proofs.Common.{nothing_left, reads_any, reads_then, while_open}
use Rattle.store_net.specs.Parts.{HasApprovals, HasBlocks, HasHeld}
use Rattle.store_net.proofs.Whole.{head_in, its_head, none_outlined, outline_is, read_before}
use Rattle.store_net.proofs.reading.outline_at.Goals as goal

pub returns-in_default-clause-found : goal.returns-in_default-clause-found
returns-in_default-clause-found g c clean office net at =
    none_outlined net (sym c.in_default.is
    ∙ c.in_ok-head.ensures.found clean office (head_in net)
    (its_head c.args.name.now (tables_of (state g.S.Store c.args.tx.now.conn.now).now.trees) net at))

pub returns-clause-found : goal.returns-clause-found
returns-clause-found g c clean office net at =
    let name = c.args.name.now in
    let s0 = state g.S.Store c.args.tx.now.conn.now in
    let s1 = state g.S.Store c.head_of.new.tx.conn.now in
    let s2 = state g.S.Store c.blocks_of.new.tx.conn.now in
    let s3 = state g.S.Store c.held_of.new.tx.conn.now in
    let clean3 : HasCleanDisk s3 = omega (arith, c.approvals_of.ensures.frame.survives.clean) in
    let clean2 : HasCleanDisk s2 = omega (arith, c.held_of.ensures.frame.survives.clean) in
    let clean1 : HasCleanDisk s1 = omega (arith, c.blocks_of.ensures.frame.survives.clean) in
    let now1 : s1.now ≡ s0.now = (c.in_ok-head.ensures.frame.same clean1 office).0.now_is in
    let office1 : IsOffice s1.now = subst IsOffice (sym now1) office in
    let now2 : s2.now ≡ s0.now = (c.in_ok-blocks.ensures.frame.same clean2 office1).0.now_is ∙ now1 in
    let office2 : IsOffice s2.now = subst IsOffice (sym now2) office in
    let now3 : s3.now ≡ s0.now = (c.in_ok-held.ensures.frame.same clean3 office2).0.now_is ∙ now2 in
    let office3 : IsOffice s3.now = subst IsOffice (sym now3) office in
    outline_is name (tables_of s0.now.trees) net _ at
    (sym c.in-Some.is ∙ c.in_ok-head.ensures.found clean1 office (head_in net)
    (its_head name (tables_of s0.now.trees) net at))
    (record {
      named = c.in_ok-duplicate.ensures;
      live = c.new.ensures;
      blocks = read_before (HasBlocks name) c.in_ok-blocks.blocks s1.now s0.now now1
          (c.in_ok-blocks.ensures.found clean2 office1);
      held = read_before (HasHeld name) c.in_ok-held.held s2.now s0.now now2
          (c.in_ok-held.ensures.found clean3 office2);
      approvals = read_before (HasApprovals name) c.in_ok-approvals.approvals s3.now s0.now now3
          (c.in_ok-approvals.ensures.found clean office3);
      releases = c.new-2.ensures;
    })

pub returns-clause-frame : goal.returns-clause-frame
returns-clause-frame g c = record {
  same_reference = search rules;
  same = search rules;
  kept = search rules;
  survives =
      nothing_left _ _ _ c.head_of.ensures.frame.survives
      (nothing_left _ _ _ c.blocks_of.ensures.frame.survives
      (nothing_left _ _ _ c.held_of.ensures.frame.survives c.approvals_of.ensures.frame.survives));
}

pub returns-in_err-duplicate-clause-frame : goal.returns-in_err-duplicate-clause-frame
returns-in_err-duplicate-clause-frame g c =
    reads_any g.S.Store _ _ _ _
    (reads_then g.S.Store _ _ _ _ _
    (reads_then g.S.Store _ _ _ _ _
    (reads_then g.S.Store _ _ _ _ _ c.in_ok-head.ensures.frame
    (while_open g.S.Store _ _ _ c.in_ok-blocks.ensures.frame))
    (while_open g.S.Store _ _ _ c.in_ok-held.ensures.frame))
    (while_open g.S.Store _ _ _ c.in_ok-approvals.ensures.frame))
