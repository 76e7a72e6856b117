use Rattle.store_net.proofs.Common.{◌≡◌, ◌∙◌, List, length, refl, sym, subst, arith, rules, nat_le, Database, state}
use Rattle.store_net.proofs.Common.{HasCleanDisk, message_limit, has_name, LiveMessage, live_name, IsOffice, tables_of}
use Rattle.store_net.proofs.Common.{AreLiveRows, live_rows, nothing_left}
use Rattle.store_net.specs.Excerpts.{HasNameAndRoom}
use Rattle.store_net.specs.Parts.{HasBlocks}
use Rattle.store_net.proofs.Excerpts.{none_there, one_there}
use Rattle.store_net.proofs.Whole.{read_before}
use Rattle.store_net.proofs.number_excerpt.name_and_room.Goals as goal

pub returns-in_default-clause-found : goal.returns-in_default-clause-found
returns-in_default-clause-found g c clean office net at =
    none_there (HasNameAndRoom c.args.message.now) c.args.name.now
    (tables_of (state g.S.Store c.args.tx.now.conn.now).now.trees) net
    (λ other h. sym c.in_default.is ∙ c.in_ok-head.ensures.found clean office other h) at

pub returns-clause-found : goal.returns-clause-found
returns-clause-found g c clean office net at =
    let name = c.args.name.now in
    let message = c.args.message.now in
    let s0 = state g.S.Store c.args.tx.now.conn.now in
    let s1 = state g.S.Store c.head_of.new.tx.conn.now in
    let s2 = state g.S.Store c.blocks_of.new.tx.conn.now in
    let s3 = state g.S.Store c.is_named_at.new.tx.conn.now in
    let clean3 : HasCleanDisk s3 = omega (arith, c.is_full_at.ensures.frame.survives.clean, clean) in
    let clean2 : HasCleanDisk s2 = omega (arith, c.is_named_at.ensures.frame.survives.clean, clean3) in
    let clean1 : HasCleanDisk s1 = omega (arith, c.blocks_of.ensures.frame.survives.clean, clean2) in
    let now1 : s1.now ≡ s0.now = (c.in_ok-head.ensures.frame.same clean1 office).0.now_is in
    let office1 : IsOffice s1.now = subst IsOffice (sym now1) office in
    let now2 : s2.now ≡ s0.now = (c.in_ok-blocks.ensures.frame.same clean2 office1).0.now_is ∙ now1 in
    let office2 : IsOffice s2.now = subst IsOffice (sym now2) office in
    let now3 : s3.now ≡ s0.now = (c.in_ok-named.ensures.frame.same clean3 office2).0.now_is ∙ now2 in
    let office3 : IsOffice s3.now = subst IsOffice (sym now3) office in
    let blocks = read_before (HasBlocks name) c.in_ok-blocks.blocks s1.now s0.now now1
    (c.in_ok-blocks.ensures.found clean2 office1) in
    let named = subst (λ (d : Database). (live : List LiveMessage)
    → AreLiveRows name (live_rows name (tables_of d.trees)) live
    → c.in_ok-named.named ≡ has_name live_name live message) now2
    (c.in_ok-named.ensures.found clean3 office2) in
    let full = subst (λ (d : Database). (live : List LiveMessage)
    → AreLiveRows name (live_rows name (tables_of d.trees)) live
    → c.in_ok-full.full ≡ nat_le message_limit (length live)) now3
    (c.in_ok-full.ensures.found clean office3) in
    one_there (HasNameAndRoom message) name (tables_of s0.now.trees) net c.in-Some.head _
    (λ other h. sym c.in-Some.is ∙ c.in_ok-head.ensures.found clean1 office other h)
    (λ n parts same. record {
      head = same;
      blocks = blocks n.blocks parts.blocks;
      named = named n.live parts.live;
      full = full n.live parts.live;
      want_live = refl;
      want_held = refl;
    }) at

pub returns-clause-frame : goal.returns-clause-frame
returns-clause-frame g c = record {
  same_reference = search rules;
  same = search rules;
  kept = search rules;
  survives =
      nothing_left _ _ _ c.head_of.ensures.frame.survives
      (nothing_left _ _ _ c.blocks_of.ensures.frame.survives
      (nothing_left _ _ _ c.is_named_at.ensures.frame.survives c.is_full_at.ensures.frame.survives));
}
