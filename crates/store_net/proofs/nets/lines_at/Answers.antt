use Rattle.store_net.proofs.Common.{◌++◌, ℕ, List, Some, sym, ap, subst, ◌∙◌, arith, Database, state, HasCleanDisk}
use Rattle.store_net.proofs.Common.{unchanged_then, keeps_then, Net, IsOffice, tables_of, IsNetAt, nothing_left}
use Rattle.store_net.proofs.Names.{lines_more, lines_whole}
use Rattle.store_net.proofs.nets.lines_at.Goals as goal

pub loop-name-preserved : goal.loop-name-preserved
loop-name-preserved g c =
    let old = state g.S.Store c.args.tx.now.conn.now in
    let mid = state g.S.Store c.loop-name.tx.conn.now in
    let now = state g.S.Store c.line_at.new.tx.conn.now in
    let names = c.args.names.now in
    let at = c.loop-name.name-index in
    let i = c.loop-name.invariant in
    let w = c.in_ok-line.ensures in
    let early : HasCleanDisk now → HasCleanDisk mid = λ clean. omega (arith, w.frame.survives.clean, clean) in
    let office : HasCleanDisk now → IsOffice old.now → IsOffice mid.now =
    λ clean was. subst IsOffice (sym (i.now_is (early clean) was)) was in
    record {
      same_reference = w.frame.same_reference ∙ i.same_reference;
      now_is = λ clean was. (w.frame.same clean (office clean was)).0.now_is ∙ i.now_is (early clean) was;
      same = λ clean was is_open. unchanged_then old mid now (i.same (early clean) was is_open)
          (w.frame.same clean (office clean was));
      kept = λ clean was. keeps_then old mid now (i.kept (early clean) was) (w.frame.kept clean (office clean was));
      survives = nothing_left old mid now i.survives w.frame.survives;
      reported = λ clean was nets there same.
          lines_more (tables_of old.now.trees) names nets at c.name-item.result c.loop-name.text.items
          c.in_ok-line.line.items c.extend_from_slice.new.self.items same there
          c.loop-name-test.true c.name-item.is (i.reported (early clean) was nets there same)
          (λ (net : Net) here. w.found clean (office clean was) net
          (subst (λ (d : Database). IsNetAt c.name-item.result (tables_of d.trees) (Some net))
          (sym (i.now_is (early clean) was)) here))
          (c.in_ok-extend_from_slice.ensures.items
          ∙ ap (λ (v : List ℕ). c.loop-name.text.items ++ v) c.deref.ensures.value);
    }

pub returns-clause-found : goal.returns-clause-found
returns-clause-found g c clean office nets there same =
    lines_whole c.args.names.now nets c.loop-name.name-index c.loop-name.text.items same c.loop-name-test.false
    (c.loop-name.invariant.reported clean office nets there same)
