use Rattle.store_net.proofs.Common.{◌≡◌, ◌∙◌, ◌+◌, ◌++◌, List, Option, refl, ap, sym, subst, arith, filter_map}
use Rattle.store_net.proofs.Common.{Database, state, HasCleanDisk, EXTENDED_FLAG, GREATEST_EXTENDED, Ident, group_of}
use Rattle.store_net.proofs.Common.{AreFacts, facts_in, NumberExcerpt, IsOffice, tables_of}
use Rattle.office_facts.specs.Scope as scope
use Rattle.store_net.specs.Excerpts.{HasNameAndRoom, MatchBoth}
use Rattle.store_net.specs.Numbers.{HasTaken, idents_between, live_idents}
use Rattle.store_net.specs.declared.ranges.TakenTable.TheVariants.{Live, Held}
use Rattle.store_net.proofs.Between.{taken_are_identifiers}
use Rattle.store_net.proofs.Excerpts.{none_more, one_more}
use Rattle.store_net.proofs.NumberExcerpts.{groups_read, of_group}
use Rattle.store_net.proofs.number_excerpt.group_excerpt.Goals as goal

pub returns-in_default-clause-found : goal.returns-in_default-clause-found
returns-in_default-clause-found g c clean office net at team =
    let take = c.args.take.now in
    let named = HasNameAndRoom take.message.name in
    none_more named (λ n e. AreFacts team n (scope.Groups take) (facts_in e)) net
    (subst (λ (o : Option NumberExcerpt). MatchBoth named net o) c.in_default.is
    (c.in_ok-excerpt.ensures.found clean office net at))

pub returns-clause-found : goal.returns-clause-found
returns-clause-found g c clean office net at team =
    let name = c.args.name.now in
    let take = c.args.take.now in
    let named = HasNameAndRoom take.message.name in
    let e = c.in-Some.excerpt in
    let s0 = state g.S.Store c.args.tx.now.conn.now in
    let s1 = state g.S.Store c.name_and_room.new.tx.conn.now in
    let s2 = state g.S.Store c.idents_at.new.tx.conn.now in
    let clean2 : HasCleanDisk s2 = omega (arith, c.idents_at-2.ensures.frame.survives.clean, clean) in
    let clean1 : HasCleanDisk s1 = omega (arith, c.idents_at.ensures.frame.survives.clean, clean2) in
    let now1 : s1.now ≡ s0.now = (c.in_ok-excerpt.ensures.frame.same clean1 office).0.now_is in
    let office1 : IsOffice s1.now = subst IsOffice (sym now1) office in
    let now2 : s2.now ≡ s0.now = (c.in_ok-live.ensures.frame.same clean2 office1).0.now_is ∙ now1 in
    let office2 : IsOffice s2.now = subst IsOffice (sym now2) office in
    let t = tables_of s0.now.trees in
    let live = subst
    (λ (d : Database). (idents : List Ident) → HasTaken Live name (tables_of d.trees) idents
    → c.in_ok-live.live ≡ idents_between EXTENDED_FLAG (EXTENDED_FLAG + GREATEST_EXTENDED) idents)
    now1 (c.in_ok-live.ensures.found clean2 office1) in
    let held = subst
    (λ (d : Database). (idents : List Ident) → HasTaken Held name (tables_of d.trees) idents
    → c.in_ok-held.held ≡ idents_between EXTENDED_FLAG (EXTENDED_FLAG + GREATEST_EXTENDED) idents)
    now2 (c.in_ok-held.ensures.found clean office2) in
    let groups =
    c.from_vec.ensures ∙ c.in_ok-groups.ensures
    ∙ ap (λ (l : List Ident). filter_map group_of (l ++ c.as_slice-2.result.now)) c.as_slice.ensures
    ∙ ap (λ (l : List Ident). filter_map group_of (c.in_ok-live.live ++ l)) c.as_slice-2.ensures in
    one_more named (λ n x. AreFacts team n (scope.Groups take) (facts_in x)) name t net e _
    (subst (λ (o : Option NumberExcerpt). MatchBoth named net o) c.in-Some.is
    (c.in_ok-excerpt.ensures.found clean1 office net at))
    (λ n parts has.
    let there : HasTaken Live name t (live_idents n.live) = (n.live, parts.live, refl) in
    of_group team n take e c.from_vec.result has
    (groups_read team n c.in_ok-live.live c.in_ok-held.held c.from_vec.result (live (live_idents n.live) there)
    (held n.held parts.held) groups
    (taken_are_identifiers Live name t (live_idents n.live) there)
    (taken_are_identifiers Held name t n.held parts.held))) at
