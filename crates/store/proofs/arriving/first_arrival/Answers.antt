use Rattle.store.proofs.Common.{◌≡◌, ◌++◌, ◌∷◌, [], List, Option, ℕ, refl, sym, ap, subst, ◌∙◌, arith, IsTrue, Database}
use Rattle.store.proofs.Common.{state, HasCleanDisk, reply_parts, SpnBook, Change, Net, HaveOwnBlocks, IsHeadFirst}
use Rattle.store.proofs.Common.{all_applied, net_named, statistics_of, IsOffice, Tables, tables_of, kept_row, part_rows}
use Rattle.store.proofs.Common.{Follows, IsNetAt, IsNext, nothing_left, answered}
use Rattle.sqlite.proofs.InsideLemmas.{keeps_then}
use Rattle.office_history.specs.declared.arrival.Answer.TheVariants as answer
use Rattle.store.proofs.OneArrival.{AreFollowed, before_of, first_holds, net_of_office}
use Rattle.store.proofs.arriving.first_arrival.Goals as goal

-- the same changes by another name
followed : (name : List ℕ) (t u : Tables) (net : Option Net) (cs ds : List Change) (book : SpnBook) → cs ≡ ds
    → (IsHeadFirst net cs → HaveOwnBlocks cs → Follows name t u (record { net = net; book = book })
    (all_applied name cs (record { net = net; book = book })))
    → AreFollowed name (record { net = net; book = book }) ds t u
followed name t u net cs ds book alike written =
    subst (λ l. AreFollowed name (record { net = net; book = book }) l t u) alike written

pub returns-clause-held : goal.returns-clause-held
returns-clause-held g c clean office h holds new =
    let s0 = state g.S.Store c.args.tx.now.conn.now in
    let s1 = state g.S.Store c.decide_on_tables.new.tx.conn.now in
    let s2 = state g.S.Store c.write_changes.new.tx.conn.now in
    let s3 = state g.S.Store c.keep_reply.new.tx.conn.now in
    let clean2 : HasCleanDisk s2 = omega (arith, c.keep_reply.ensures.frame.survives.clean) in
    let clean1 : HasCleanDisk s1 = omega (arith, c.write_changes.ensures.frame.survives.clean) in
    let o = holds.holds.office in
    let team = c.args.team.now in
    let command = c.args.request.now.command in
    let name = command.net in
    let before = net_named o name in
    let d = c.in_ok-decision.decision in
    let now1 : s1.now ≡ s0.now = (c.in_ok-decision.ensures.frame.same clean1 office).0.now_is in
    let office1 : IsOffice s1.now = subst IsOffice (sym now1) office in
    let office2 : IsOffice s2.now = c.in_ok-write_changes.ensures.frame.office clean2 office1 in
    let decided = c.in_ok-decision.ensures.decided clean1 office before o.book (holds.holds.nets name)
    (net_of_office c.histories_leave_offices.ensures h o name holds.holds.in_range holds.holds.legal)
    holds.holds.book in
    let there : IsNetAt name (tables_of s1.now.trees) before =
    subst (λ (db : Database). IsNetAt name (tables_of db.trees) before) (sym now1) (holds.holds.nets name) in
    let written = subst (λ (db : Database). AreFollowed name (before_of o name) d.changes (tables_of db.trees)
    (tables_of s2.now.trees)) now1
    (followed name (tables_of s1.now.trees) (tables_of s2.now.trees) before _ d.changes o.book c.as_slice.ensures
    (λ first own. c.in_ok-write_changes.ensures.written clean2 office1 before o.book there first own
    (subst (λ (cs : List Change). IsNext c.in_ok-decision.next before cs) (sym c.as_slice.ensures) decided.1))) in
    let kept = c.in_ok-keep_reply.ensures.added clean office2
    ∙ ap (λ content. record (tables_of s2.now.trees) {
      reply = (tables_of s2.now.trees).reply ++ kept_row team
          c.args.key.now content d.reply ∷ [];
      part = (tables_of s2.now.trees).part ++ part_rows team c.args.key.now 1
          (reply_parts d.reply);
    }) c.as_slice-2.ensures.value in
    first_holds c.histories_leave_offices.ensures h (answered team c.args.key.now c.args.request.now
    (answer.Reply d.reply)) d (tables_of s0.now.trees) (tables_of s2.now.trees) (tables_of s3.now.trees)
    holds refl (c.as_bytes.ensures.keeps, c.command_is_in_range.ensures) new refl decided.0 written kept

pub returns-clause-frame : goal.returns-clause-frame
returns-clause-frame g c =
    let s0 = state g.S.Store c.args.tx.now.conn.now in
    let s1 = state g.S.Store c.decide_on_tables.new.tx.conn.now in
    let s2 = state g.S.Store c.write_changes.new.tx.conn.now in
    let s3 = state g.S.Store c.keep_reply.new.tx.conn.now in
    let d = c.in_ok-decision.ensures.frame in
    let w = c.in_ok-write_changes.ensures.frame in
    let k = c.in_ok-keep_reply.ensures.frame in
    let early2 : HasCleanDisk s3 → HasCleanDisk s2 = λ clean. omega (arith, k.survives.clean, clean) in
    let early1 : HasCleanDisk s3 → HasCleanDisk s1 = λ clean. omega (arith, w.survives.clean, early2 clean) in
    let same1 : HasCleanDisk s3 → IsOffice s0.now → s1.now ≡ s0.now =
    λ clean was. (d.same (early1 clean) was).0.now_is in
    let office1 : HasCleanDisk s3 → IsOffice s0.now → IsOffice s1.now =
    λ clean was. subst IsOffice (sym (same1 clean was)) was in
    let office2 : HasCleanDisk s3 → IsOffice s0.now → IsOffice s2.now =
    λ clean was. w.office (early2 clean) (office1 clean was) in
    record {
      same_reference = k.same_reference ∙ w.same_reference ∙ d.same_reference;
      office = λ clean was. k.office clean (office2 clean was);
      same_schema = λ clean was. k.same_schema clean (office2 clean was)
          ∙ w.same_schema (early2 clean) (office1 clean was)
          ∙ ap (λ (db : Database). db.schema) (same1 clean was);
      statistics = λ clean was. k.statistics clean (office2 clean was) ∙ w.statistics (early2 clean) (office1 clean was)
          ∙ ap statistics_of (same1 clean was);
      inside = λ clean was mode. k.inside clean (office2 clean was)
          (w.inside (early2 clean) (office1 clean was)
          (subst IsTrue (sym (d.same (early1 clean) was).0.mode) mode));
      kept = λ clean was. keeps_then s0 s1 s3 (d.kept (early1 clean) was)
          (keeps_then s1 s2 s3 (w.kept (early2 clean) (office1 clean was)) (k.kept clean));
      survives = nothing_left s0 s1 s3 d.survives (nothing_left s1 s2 s3 w.survives k.survives);
    }
