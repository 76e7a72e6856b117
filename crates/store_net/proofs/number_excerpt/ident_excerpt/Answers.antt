use Rattle.store_net.proofs.Common.{◌≡◌, ◌∙◌, ◌++◌, List, Option, refl, ap, sym, subst, arith, rules, filter_map}
use Rattle.store_net.proofs.Common.{list_any, Database, state, HasCleanDisk, unchanged_then, Ident, GrantedBlock}
use Rattle.store_net.proofs.Common.{blocks_of, is_wanted, number_in, same_ident, AreFacts, facts_in, NumberExcerpt}
use Rattle.store_net.proofs.Common.{IsOffice, tables_of, nothing_left, reads_any, reads_then}
use Rattle.office_types.specs.declared.block.BlockForm.{BlockForm}
use Rattle.office_facts.specs.Scope as scope
use Rattle.store_net.specs.Excerpts.{HasNameAndRoom, MatchBoth}
use Rattle.store_net.specs.Numbers.{HasTaken, idents_inside, live_idents}
use Rattle.store_net.specs.declared.ranges.TakenTable.TheVariants.{Live, Held}
use Rattle.store_net.proofs.Between.{taken_are_identifiers}
use Rattle.store_net.proofs.Excerpts.{none_more, one_more}
use Rattle.store_net.proofs.NumberExcerpts.{of_ident, read_inside}
use Rattle.store_net.proofs.Inside.{wanted_live}
use Rattle.store_net.proofs.number_excerpt.ident_excerpt.Goals as goal

pub returns-in_default-clause-found : goal.returns-in_default-clause-found
returns-in_default-clause-found g c clean office net at =
    let take = c.args.take.now in
    let named = HasNameAndRoom take.message.name in
    none_more named (λ n e. AreFacts c.args.team.now n (scope.Idents take) (facts_in e)) net
    (subst (λ (o : Option NumberExcerpt). MatchBoth named net o) c.in_default.is
    (c.in_ok-excerpt.ensures.found clean office net at))

pub returns-clause-found : goal.returns-clause-found
returns-clause-found g c clean office net at =
    let name = c.args.name.now in
    let team = c.args.team.now in
    let take = c.args.take.now in
    let form = take.form in
    let named = HasNameAndRoom take.message.name in
    let e = c.in-Some.excerpt in
    let own = c.in_ok-own.own.items in
    let s0 = state g.S.Store c.args.tx.now.conn.now in
    let s1 = state g.S.Store c.name_and_room.new.tx.conn.now in
    let s2 = state g.S.Store c.idents_inside_at.new.tx.conn.now in
    let s3 = state g.S.Store c.idents_inside_at-2.new.tx.conn.now in
    let s4 = state g.S.Store c.want_taken_at.new.tx.conn.now in
    let clean4 : HasCleanDisk s4 = omega (arith, c.want_taken_at-2.ensures.frame.survives.clean, clean) in
    let clean3 : HasCleanDisk s3 = omega (arith, c.want_taken_at.ensures.frame.survives.clean, clean4) in
    let clean2 : HasCleanDisk s2 = omega (arith, c.idents_inside_at-2.ensures.frame.survives.clean, clean3) in
    let clean1 : HasCleanDisk s1 = omega (arith, c.idents_inside_at.ensures.frame.survives.clean, clean2) in
    let one = c.in_ok-excerpt.ensures.frame.same clean1 office in
    let office1 : IsOffice s1.now = subst IsOffice (sym one.0.now_is) office in
    let two = unchanged_then s0 s1 s2 one (c.in_ok-live.ensures.frame.same clean2 office1 one.0.is_open) in
    let office2 : IsOffice s2.now = subst IsOffice (sym two.0.now_is) office in
    let three = unchanged_then s0 s2 s3 two (c.in_ok-held.ensures.frame.same clean3 office2 two.0.is_open) in
    let office3 : IsOffice s3.now = subst IsOffice (sym three.0.now_is) office in
    let four = unchanged_then s0 s3 s4 three (c.in_ok-want_live.ensures.frame.same clean4 office3 three.0.is_open) in
    let office4 : IsOffice s4.now = subst IsOffice (sym four.0.now_is) office in
    let t = tables_of s0.now.trees in
    let live = subst (λ (d : Database). (idents : List Ident) → HasTaken Live name (tables_of d.trees) idents
    → c.in_ok-live.live.items ≡ idents_inside form own idents) one.0.now_is
    (rw c.deref.ensures.value at (c.in_ok-live.ensures.found clean2 office1)) in
    let held = subst (λ (d : Database). (idents : List Ident) → HasTaken Held name (tables_of d.trees) idents
    → c.in_ok-held.held.items ≡ idents_inside form own idents) two.0.now_is
    (rw c.deref-2.ensures.value at (c.in_ok-held.ensures.found clean3 office2)) in
    let want_live = subst
    (λ (d : Database). (idents : List Ident) → HasTaken Live name (tables_of d.trees) idents
    → c.in_ok-want_live.want_live ≡ is_wanted (λ i. list_any (λ taken. same_ident taken i) idents) form take.want)
    three.0.now_is (c.in_ok-want_live.ensures.found clean4 office3) in
    let want_held = subst
    (λ (d : Database). (idents : List Ident) → HasTaken Held name (tables_of d.trees) idents
    → c.in_ok-want_held.want_held ≡ is_wanted (λ i. list_any (λ taken. same_ident taken i) idents) form take.want)
    four.0.now_is (c.in_ok-want_held.ensures.found clean office4) in
    let numbers =
    c.from_vec.ensures ∙ c.in_ok-numbers.ensures
    ∙ ap (λ (l : List Ident). filter_map (number_in form) (l ++ c.deref-4.result.now)) c.deref-3.ensures.value
    ∙ ap (λ (l : List Ident). filter_map (number_in form) (c.in_ok-live.live.items ++ l)) c.deref-4.ensures.value in
    one_more named (λ n x. AreFacts team n (scope.Idents take) (facts_in x)) name t net e _
    (subst (λ (o : Option NumberExcerpt). MatchBoth named net o) c.in-Some.is
    (c.in_ok-excerpt.ensures.found clean1 office net at))
    (λ n parts has.
    let there : HasTaken Live name t (live_idents n.live) = (n.live, parts.live, refl) in
    of_ident team n take e c.in_ok-want_live.want_live c.in_ok-want_held.want_held c.from_vec.result has
    (want_live (live_idents n.live) there ∙ wanted_live form take.want n.live) (want_held n.held parts.held)
    (read_inside team n form own c.in_ok-live.live.items c.in_ok-held.held.items c.from_vec.result
    (c.in_ok-own.ensures ∙ ap (λ (b : List GrantedBlock). blocks_of b team c.of_identifiers.result)
    (c.as_slice.ensures ∙ has.blocks)
    ∙ ap (λ (f : BlockForm). blocks_of n.blocks team f) c.of_identifiers.ensures)
    (live (live_idents n.live) there) (held n.held parts.held) numbers
    (taken_are_identifiers Live name t (live_idents n.live) there)
    (taken_are_identifiers Held name t n.held parts.held))) at

pub returns-clause-frame : goal.returns-clause-frame
returns-clause-frame g c = record {
  same_reference = search rules;
  same = λ clean office.
      let s0 = state g.S.Store c.args.tx.now.conn.now in
      let s1 = state g.S.Store c.name_and_room.new.tx.conn.now in
      let s2 = state g.S.Store c.idents_inside_at.new.tx.conn.now in
      let s3 = state g.S.Store c.idents_inside_at-2.new.tx.conn.now in
      let s4 = state g.S.Store c.want_taken_at.new.tx.conn.now in
      let s5 = state g.S.Store c.want_taken_at-2.new.tx.conn.now in
      let clean4 : HasCleanDisk s4 = omega (arith, c.want_taken_at-2.ensures.frame.survives.clean, clean) in
      let clean3 : HasCleanDisk s3 = omega (arith, c.want_taken_at.ensures.frame.survives.clean, clean4) in
      let clean2 : HasCleanDisk s2 = omega (arith, c.idents_inside_at-2.ensures.frame.survives.clean, clean3) in
      let clean1 : HasCleanDisk s1 = omega (arith, c.idents_inside_at.ensures.frame.survives.clean, clean2) in
      let one = c.in_ok-excerpt.ensures.frame.same clean1 office in
      let office1 : IsOffice s1.now = subst IsOffice (sym one.0.now_is) office in
      let two = unchanged_then s0 s1 s2 one (c.in_ok-live.ensures.frame.same clean2 office1 one.0.is_open) in
      let office2 : IsOffice s2.now = subst IsOffice (sym two.0.now_is) office in
      let three = unchanged_then s0 s2 s3 two (c.in_ok-held.ensures.frame.same clean3 office2 two.0.is_open) in
      let office3 : IsOffice s3.now = subst IsOffice (sym three.0.now_is) office in
      let four = unchanged_then s0 s3 s4 three (c.in_ok-want_live.ensures.frame.same clean4 office3 three.0.is_open) in
      let office4 : IsOffice s4.now = subst IsOffice (sym four.0.now_is) office in
      unchanged_then s0 s4 s5 four (c.in_ok-want_held.ensures.frame.same clean office4 four.0.is_open);
  kept = search rules;
  survives =
      nothing_left _ _ _ c.name_and_room.ensures.frame.survives
      (nothing_left _ _ _ c.idents_inside_at.ensures.frame.survives
      (nothing_left _ _ _ c.idents_inside_at-2.ensures.frame.survives
      (nothing_left _ _ _ c.want_taken_at.ensures.frame.survives c.want_taken_at-2.ensures.frame.survives)));
}

pub returns-in_err-numbers-clause-frame : goal.returns-in_err-numbers-clause-frame
returns-in_err-numbers-clause-frame g c =
    reads_any g.S.Store _ _ _ _
    (reads_then g.S.Store _ _ _ _ _
    (reads_then g.S.Store _ _ _ _ _
    (reads_then g.S.Store _ _ _ _ _
    (reads_then g.S.Store _ _ _ _ _ c.in_ok-excerpt.ensures.frame c.in_ok-live.ensures.frame)
    c.in_ok-held.ensures.frame) c.in_ok-want_live.ensures.frame) c.in_ok-want_held.ensures.frame)
