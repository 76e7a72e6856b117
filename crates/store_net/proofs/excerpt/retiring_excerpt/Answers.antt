use Rattle.store_net.proofs.Common.{◌≡◌, ◌∙◌, List, Option, None, Some, sym, subst, arith, IfSome, Database, state}
use Rattle.store_net.proofs.Common.{HasCleanDisk, AreFacts, facts_in, LiveMessage, Net, in_last, live_named}
use Rattle.store_net.proofs.Common.{was_released, IsOffice, tables_of, AreLiveRows, live_rows, IsNetAt}
use Rattle.office_facts.specs.Scope as scope
use Rattle.store_net.proofs.Excerpts.{facts_read, last_of_net, none_there, one_there, rows_are_read, whole_there}
use Rattle.store_net.proofs.excerpt.retiring_excerpt.Goals as goal

pub returns-in_default-clause-found : goal.returns-in_default-clause-found
returns-in_default-clause-found g c clean office net at is_net team =
    let name = c.args.name.now in
    let t = tables_of (state g.S.Store c.args.tx.now.conn.now).now.trees in
    none_there (λ n e. AreFacts team n (scope.Retiring c.args.message.now) (facts_in e)) name t net
    (λ other h. sym c.in_default.is ∙ c.in_ok-head.ensures.found clean office other h) (rows_are_read name t net at)

pub returns-in-None-clause-found : goal.returns-in-None-clause-found
returns-in-None-clause-found g c clean office net at is_net team =
    let name = c.args.name.now in
    let message = c.args.message.now in
    let s0 = state g.S.Store c.args.tx.now.conn.now in
    let s1 = state g.S.Store c.head_of.new.tx.conn.now in
    let t = tables_of s0.now.trees in
    let clean1 : HasCleanDisk s1 = omega (arith, c.message_at.ensures.frame.survives.clean, clean) in
    let now1 : s1.now ≡ s0.now = (c.in_ok-head.ensures.frame.same clean1 office).0.now_is in
    let office1 : IsOffice s1.now = subst IsOffice (sym now1) office in
    let found = subst (λ (d : Database). (live : List LiveMessage)
    → AreLiveRows name (live_rows name (tables_of d.trees)) live → None ≡ live_named live message) now1
    (λ live rows. sym c.in-None.is ∙ c.in_ok-found.ensures.found clean office1 live rows) in
    one_there (λ n e. AreFacts team n (scope.Retiring message) (facts_in e)) name t net c.in-Some.head _
    (λ other h. sym c.in-Some.is ∙ c.in_ok-head.ensures.found clean1 office other h)
    (λ n parts same. (facts_read n message _ _ same (found n.live parts.live), tt)) (rows_are_read name t net at)

pub returns-clause-found : goal.returns-clause-found
returns-clause-found g c clean office net at is_net team =
    let name = c.args.name.now in
    let message = c.args.message.now in
    let s0 = state g.S.Store c.args.tx.now.conn.now in
    let s1 = state g.S.Store c.head_of.new.tx.conn.now in
    let s2 = state g.S.Store c.message_at.new.tx.conn.now in
    let t = tables_of s0.now.trees in
    let clean2 : HasCleanDisk s2 = omega (arith, c.last_has_at.ensures.frame.survives.clean, clean) in
    let clean1 : HasCleanDisk s1 = omega (arith, c.message_at.ensures.frame.survives.clean, clean2) in
    let now1 : s1.now ≡ s0.now = (c.in_ok-head.ensures.frame.same clean1 office).0.now_is in
    let office1 : IsOffice s1.now = subst IsOffice (sym now1) office in
    let now2 : s2.now ≡ s0.now = (c.in_ok-found.ensures.frame.same clean2 office1).0.now_is ∙ now1 in
    let office2 : IsOffice s2.now = subst IsOffice (sym now2) office in
    let found = subst (λ (d : Database). (live : List LiveMessage)
    → AreLiveRows name (live_rows name (tables_of d.trees)) live
    → c.in_ok-found.found ≡ live_named live message) now1
    (c.in_ok-found.ensures.found clean2 office1) in
    let last = subst (λ (d : Database). (n : Net) → IsNetAt name (tables_of d.trees) (Some n)
    → c.in_ok-released.released ≡ in_last n.releases c.in-Some-found.live.message.ident) now2
    (c.in_ok-released.ensures.found clean office2) in
    whole_there (λ n e. AreFacts team n (scope.Retiring message) (facts_in e)) name t net c.in-Some.head _
    (λ other h. sym c.in-Some.is ∙ c.in_ok-head.ensures.found clean1 office other h)
    (λ n whole its same.
    let is = found n.live (rows_are_read name t (Some n) whole).live in (
      facts_read n message _ _ same is,
      subst (λ (o : Option LiveMessage). IfSome o
          (λ m. was_released n.releases m.message.ident ≡ c.in_ok-released.released)) (sym c.in-Some-found.is)
          (last_of_net n message _ its (sym c.in-Some-found.is ∙ is) ∙ sym (last n whole)),
    )) at is_net
