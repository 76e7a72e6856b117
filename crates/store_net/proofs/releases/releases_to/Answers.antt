use Rattle.store_net.proofs.Common.{◌≡◌, take, sym, ap, subst, ◌∙◌, arith, Database, state, HasCleanDisk}
use Rattle.store_net.proofs.Common.{unchanged_then, keeps_then, IsOffice, tables_of, IsNetAt, nothing_left, on_any}
use Rattle.store_bodies.specs.ReadText.{TextsRead}
use Rattle.store_net.specs.Parts.{releases_in}
use Rattle.store_net.proofs.LastRelease.{one_more}
use Rattle.store_net.proofs.releases.releases_to.Goals as goal

pub loop-index-preserved : goal.loop-index-preserved
loop-index-preserved g c =
    let old = state g.S.Store c.args.tx.now.conn.now in
    let mid = state g.S.Store c.loop-index.tx.conn.now in
    let now = state g.S.Store c.release_numbered.new.tx.conn.now in
    let i = c.loop-index.invariant in
    let w = c.in_ok-text.ensures in
    let early : HasCleanDisk now → HasCleanDisk mid = λ clean. omega (arith, w.frame.survives.clean, clean) in
    let office : HasCleanDisk now → IsOffice old.now → IsOffice mid.now =
    λ clean was. subst IsOffice (sym (i.now_is (early clean) was)) was in
    record {
      same_reference = w.frame.same_reference ∙ i.same_reference;
      now_is = λ clean was. (w.frame.same clean (office clean was)).0.now_is ∙ i.now_is (early clean) was;
      same = λ clean was is_open. unchanged_then old mid now (i.same (early clean) was is_open)
          (w.frame.same clean (office clean was));
      kept = λ clean was. keeps_then old mid now (i.kept (early clean) was) (w.frame.kept clean (office clean was));
      survives = nothing_left old mid now i.survives w.frame.survives;
      reported = λ clean was net there.
          let there1 = subst (λ (d : Database). IsNetAt c.args.name.now (tables_of d.trees) net)
          (sym (i.now_is (early clean) was)) there in
          ap (λ (r : TextsRead). r.sheets) c.in_ok-read.ensures
          ∙ one_more net c.loop-index.index c.in_ok-text.text.sheet c.loop-index.read.sheets
          (i.reported (early clean) was net there) (w.found clean (office clean was) net there1);
    }

pub returns-clause-found : goal.returns-clause-found
returns-clause-found g c clean office net there =
    let ended : c.loop-index.index ≡ c.args.last = omega (arith, c.loop-index-test.false, c.loop-index.auto.index-end)
    in
    c.loop-index.invariant.reported clean office net there ∙ ap (λ n. take n (releases_in net)) ended

pub returns-in_err-read-clause-frame : goal.returns-in_err-read-clause-frame
returns-in_err-read-clause-frame g c =
    let old = state g.S.Store c.args.tx.now.conn.now in
    let mid = state g.S.Store c.loop-index.tx.conn.now in
    let now = state g.S.Store c.release_numbered.new.tx.conn.now in
    let i = c.loop-index.invariant in
    let w = c.in_ok-text.ensures in
    let early : HasCleanDisk now → HasCleanDisk mid = λ clean. omega (arith, w.frame.survives.clean, clean) in
    let office : HasCleanDisk now → IsOffice old.now → IsOffice mid.now =
    λ clean was. subst IsOffice (sym (i.now_is (early clean) was)) was in
    record {
      same_reference = w.frame.same_reference ∙ i.same_reference;
      same = λ clean was is_open. on_any c.from_residual-in_err-read.result
          (unchanged_then old mid now (i.same (early clean) was is_open) (w.frame.same clean (office clean was)));
      kept = λ clean was. keeps_then old mid now (i.kept (early clean) was) (w.frame.kept clean (office clean was));
      survives = nothing_left old mid now i.survives w.frame.survives;
    }
